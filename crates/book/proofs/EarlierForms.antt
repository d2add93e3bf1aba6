-- Laws of forms that the code took before, in which reading told the blocks' faults and the head's apart, and the writer held the fields of a verdict one by one.
-- They hold still, so that whoever cited them finds them; the last law ties what the writer held to the present form.
-- Assumes nothing.
use Rattle.std.specs.Prelude.{ℕ, ◌≡◌, List, [], ◌++◌}
use Rattle.std.proofs.Math.Path.{refl}
use Rattle.std.proofs.Common.{◌∙◌}
use Rattle.sets.specs.declared.Set.{Set}
use Rattle.rows.specs.Judge.{Check}
use Rattle.book.specs.Fault.{At, Clear, fault_of}
use Rattle.book.specs.FaultLaws.{fault_first, fault_next}
use Rattle.book.specs.Heads.{said as present_said}
use Rattle.book.specs.Layout.{Content, edition_one}
use Rattle.book.specs.Read.{content, block_checks, head_checks, body_checks, read_checks}

-- the first fault of the three lists, one after the other
module _ (b : List ℕ) (room : ℕ) where
  abbrev pub outer : List Check
  outer = block_checks b

  abbrev pub head : List Check
  head = head_checks edition_one (content edition_one b) b

  abbrev pub body : List Check
  body = body_checks edition_one (content edition_one b) b room

  pub outer_fault : (i p : ℕ) → fault_of outer ≡ At i p → fault_of (read_checks edition_one b room) ≡ At i p
  outer_fault i p h = fault_first outer (head ++ body) i p h

  pub head_fault : (i p : ℕ) → fault_of outer ≡ Clear → fault_of head ≡ At i p → fault_of (read_checks edition_one b room) ≡ At i p
  head_fault i p o h = fault_next outer (head ++ body) o ∙ fault_first head body i p h

  pub body_fault : fault_of outer ≡ Clear → fault_of head ≡ Clear → fault_of (read_checks edition_one b room) ≡ fault_of body
  body_fault o h = fault_next outer (head ++ body) o ∙ fault_next head body h

-- what the writer held of a book besides its table
pub record Head : Type 0 where
  pub m : ℕ
  pub n : ℕ
  pub kind : ℕ
  pub order : List ℕ
  pub group : Set

-- what a book of this head and these words says
abbrev pub said : Head → List ℕ → Content
said h words = record {
  m = h.m;
  n = h.n;
  verdict = record { kind = h.kind; order = h.order; group = h.group };
  more = [];
  table = words;
}

pub said_told : (h : Head) (words : List ℕ)
    → present_said (record { m = h.m; n = h.n; verdict = record { kind = h.kind; order = h.order; group = h.group } }) words ≡ said h words
said_told h words = refl
