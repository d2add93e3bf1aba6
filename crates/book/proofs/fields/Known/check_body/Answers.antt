-- The checks are made in the order of the definition's list, 13 by the form and the spare bytes alone.
-- Each return rewrites the list with the tests that led there. Assumes nothing.
use Rattle.std.proofs.Common.{sym, ◌∙◌, ◌≡◌, ◌*◌, le-leb}
use Rattle.std.proofs.lemmas.Bool.{lt-leb}
use Rattle.sets.specs.SumLaws.{some_below_some, some_below_none}
use Rattle.book.specs.Fault.{fault_of}
use Rattle.book.specs.Layout.{edition_one}
use Rattle.book.specs.Read.{content, lowest_bad, body_checks}
use Rattle.book.proofs.SpareLaws.{made_checks, body_checks_lem}
use Rattle.book.proofs.fields.Known.check_body.Goals as goal
use Rattle.book.proofs.fields.Known.check_body.Goals.{After-fields_fit}

-- the list of checks as they are made here
made : (c : After-fields_fit) → fault_of (body_checks edition_one (content edition_one c.args.self.now.bytes.now) c.args.self.now.bytes.now c.args.room)
    ≡ fault_of (made_checks c.args.self.now.bytes.now c.args.self.now.n c.args.room)
made c = let s = c.args.self.now in body_checks_lem s.bytes.now s.n c.args.room s.fits s.sealed s.headed

pub returns-then-not-fields_fit : goal.returns-then-not-fields_fit
returns-then-not-fields_fit c = rw (made (goal.at.returns-then-not-fields_fit c).After-fields_fit, sym c.if-not-fields_fit.ensures)

pub returns-in-Some : goal.returns-in-Some
returns-in-Some c =
    let s = c.args.self.now in
    let lowest = some_below_some _ _ (sym c.lowest_bad.ensures ∙ c.in-Some.is) in
    rw (made (goal.at.returns-in-Some c).After-fields_fit, sym c.if-not-fields_fit.ensures, lowest.0, lt-leb s.n (lowest_bad edition_one (content edition_one s.bytes.now)) lowest.1)

pub returns-then-room-self : goal.returns-then-room-self
returns-then-room-self c =
    let s = c.args.self.now in
    let fair = some_below_none _ _ (sym c.lowest_bad.ensures ∙ c.in_default.is) in
    rw (made (goal.at.returns-then-room-self c).After-fields_fit, sym c.if-not-fields_fit.ensures, le-leb s.n _ fair, lt-leb (3 * s.n) c.args.room c.if-room-self.true)

pub returns : goal.returns
returns c =
    let s = c.args.self.now in
    let fair = some_below_none _ _ (sym c.lowest_bad.ensures ∙ c.in_default.is) in
    rw (made (goal.at.returns c).After-fields_fit, sym c.if-not-fields_fit.ensures, le-leb s.n _ fair, le-leb (3 * s.n) c.args.room c.if-room-self.false)
