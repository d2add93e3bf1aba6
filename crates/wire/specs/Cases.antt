-- The bytes of a case, and why one is not read.
-- Assumes nothing.
use Rattle.std.specs.Prelude.{◌≡◌, ◌≢◌, ◌≤◌, ⊤, Option, Result, MatchResult, ℕ, ◌+◌, ◌-◌, Bool, true, false, List, [], ◌++◌, take, drop, replicate, if◌then◌else◌, ◌==◌}
use Rattle.std.specs.Int.{w16, to_be_bytes}
use Rattle.std.specs.Io.KnownBytes.{Consumes}
use Rattle.std.specs.IoError.{error_kind}
use Rattle.std.specs.declared.io.ErrorKind.TheVariants.{UnexpectedEof}
use Rattle.wire.specs.Answers.{words_bytes}
use Rattle.wire.specs.Lists.{words_of, bytes_of}
use Rattle.wire.specs.declared.lists.Words.{Words}
use Rattle.wire.specs.declared.lists.Bytes.{Bytes}
use Rattle.wire.specs.declared.case.Shape.{Shape}
use Rattle.wire.specs.declared.case.Case.{Case}
use Rattle.wire.specs.declared.case.Stop.{Stop}
use Rattle.wire.specs.declared.case.Stop.TheVariants.{End, Error}

-- an error is the reader's own, never that the input ends
abbrev pub IsOwn : Stop → Type 0
IsOwn End = ⊤
IsOwn (Error e) = error_kind e ≢ UnexpectedEof

-- what was read are the bytes of the part that is answered; or the reading stopped
abbrev pub Reads : {R T : Type 0} → (R → Option (List ℕ)) → R → R → Result T Stop → (T → List ℕ) → Type 0
Reads remaining old new r bytes_of =
    MatchResult r (λ part. Consumes (remaining old) (remaining new) (bytes_of part)) IsOwn

-- the count of a list that has n elements, at most `most`; with 0 there is no list, and no count
abbrev pub count_bytes : ℕ → ℕ → List ℕ
count_bytes most n = if most == 0 then [] else to_be_bytes w16 n

abbrev pub byte_list_bytes : ℕ → Bytes → List ℕ
byte_list_bytes most list = count_bytes most list.n ++ bytes_of list

abbrev pub most_words : Bool → ℕ
most_words true = 512
most_words false = 0

abbrev pub word_list_bytes : Bool → Words → List ℕ
word_list_bytes is_there list = count_bytes (most_words is_there) list.n ++ words_bytes (words_of list)

abbrev pub case_bytes : Shape → Case → List ℕ
case_bytes shape case =
    word_list_bytes shape.table case.table
    ++ take shape.numbers case.numbers.bytes
    ++ byte_list_bytes shape.list case.list
    ++ take shape.after (drop shape.numbers case.numbers.bytes)
    ++ word_list_bytes shape.room case.room

-- a case has no more than its shape allows, and behind its numbers nothing but 0
pub record IsOfShape (shape : Shape) (case : Case) : Type 0 where
  pub table : case.table.n ≤ most_words shape.table
  pub list : case.list.n ≤ shape.list
  pub room : case.room.n ≤ most_words shape.room
  pub numbers : shape.numbers + shape.after ≤ 2048
  pub behind : drop (shape.numbers + shape.after) case.numbers.bytes ≡ replicate (2048 - (shape.numbers + shape.after)) 0
