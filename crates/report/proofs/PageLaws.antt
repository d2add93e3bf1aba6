-- Laws of a page: lines put one behind the other, and what stands on it in the end.
-- Assumes nothing.
use Rattle.std.specs.Prelude.{refl}
use Rattle.std.proofs.Common.{◌≡◌, ℕ, suc, ◌+◌, ◌-◌, ◌^◌, ◌<◌, min, List, [], ◌∷◌, length, arith, ◌∙◌, add-one, add-zero}
use Rattle.std.proofs.lemmas.List.Sums.{fold-append}
use Rattle.report.specs.declared.page.Page.{Page}
use Rattle.report.specs.Text.{lines, over}
use Rattle.report.specs.Page.{put_byte, put}
use Rattle.report.specs.TextLaws.{Puts}

-- the next of the lines
pub put_line : (page : Page) {before after : Page} (f : ℕ → List ℕ) (i : ℕ)
    → before ≡ put page (lines i f) → after ≡ put before (f i) → after ≡ put page (lines (i + 1) f)
put_line page f i p q = rw (add-one, fold-append put_byte page (lines i f) (f i), ← p) q

-- short of the largest position the text stands over the output
pub put_over : (page : Page) (text : List ℕ) → page.end + length text < 2 ^ 64
    → put page text ≡ record page { out = record page.out { now = over page.out.now page.end text }; end = page.end + length text }
unfolding over
put_over page [] h = rw add-zero refl
put_over page (x ∷ text) h =
    let next : min (page.end + 1) (2 ^ 64 - 1) ≡ suc page.end = omega arith in
    let end : page.end + suc (length text) ≡ suc page.end + length text = omega arith in
    put_over (put_byte page x) text (rw next (omega arith)) ∙ rw (next, end) refl

-- so that putting a text keeps what `Puts` says of a function that puts text
pub put_puts : (page : Page) (text : List ℕ) → page.end + length text < 2 ^ 64
    → Puts page.out.now page.end text (put page text).out.now (put page text).end
put_puts page text h = rw (put_over page text h) (record { end = refl; bytes = refl })
