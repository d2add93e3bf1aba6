-- What a page becomes where text is put on it.
-- Assumes nothing.
use Rattle.std.specs.Prelude.{ℕ, ◌+◌, ◌-◌, ◌^◌, List, set, min}
use Rattle.std.specs.List.{fold}
use Rattle.report.specs.declared.page.Page.{Page}

-- the page with a byte more: past the end of the output it is left out, and counted all the same
abbrev pub put_byte : Page → ℕ → Page
put_byte page byte =
    record page { out = record page.out { now = set page.out.now page.end byte }; end = min (page.end + 1) (2 ^ 64 - 1) }

-- the page with a text more
abbrev pub put : Page → List ℕ → Page
put page text = fold put_byte page text
