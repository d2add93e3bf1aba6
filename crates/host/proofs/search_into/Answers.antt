-- The search does not refuse a fair table, and its verdict with the order that it wrote over 96 times 255 is that of the definition.
-- The output has room, so the writer takes that verdict, and its book is the definition's. Assumes nothing.
use Rattle.std.specs.Prelude.{◌≡◌, refl}
use Rattle.std.proofs.Common.{sym, ap, ◌∙◌}
use Rattle.rows.proofs.RefusalLaws.{refused_not_done}
use Rattle.book.specs.Write.{BookWritten}
use Rattle.host.specs.Host.{verdict_by}
use Rattle.host.specs.VerdictLaws.{not_refused}
use Rattle.host.proofs.HostLaws.{searched_written}
use Rattle.host.proofs.search_into.Goals as goal
use Rattle.host.proofs.search_into.Goals.{After-write, in-Order, in-Blocked}

chosen : (c : After-write) → record { kind = c.match-searched.kind.0; order = c.search.new.out; group = c.match-searched.kind.1 } ≡ verdict_by c.args.words.now c.args.m
unfolding verdict_by
chosen c =
    let found = c.in_ok-searched.ensures in
    elim c.match-searched.branch [
      | in-Order w ↦ rw (w.kind-is, found.out_after, sym (rw w.in-Order.is at found.value)) refl
      | in-Blocked w ↦ rw (w.kind-is, found.out_after, sym (rw w.in-Blocked.is at found.value)) refl
    ]

pub returns-in_err-searched-clause-bytes : goal.returns-in_err-searched-clause-bytes
returns-in_err-searched-clause-bytes c = absurd (not_refused _ _ c.requires.fair _ c.in_err-searched.ensures.value)

pub returns-in_err-write : goal.returns-in_err-write
returns-in_err-write c =
    let answer = rw (chosen (goal.at.returns-in_err-write c).After-write) at c.in_err-write.ensures.answer in
    let written = searched_written c.args.words.now c.args.m c.args.out.now c.requires.fair c.requires.room in
    absurd (refused_not_done _ (ap (λ (r : BookWritten). r.number) answer ∙ written.0))

pub returns-clause-bytes : goal.returns-clause-bytes
returns-clause-bytes c =
    let bytes = rw (chosen (goal.at.returns-clause-bytes c).After-write) at c.write.ensures.bytes in
    bytes ∙ (searched_written c.args.words.now c.args.m c.args.out.now c.requires.fair c.requires.room).1
