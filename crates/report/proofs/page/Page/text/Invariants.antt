-- The invariant: the bytes passed are put.
-- A turn puts the next one. Assumes nothing.
use Rattle.std.proofs.Common.{◌≡◌, take}
use Rattle.report.specs.Page.{put}
use Rattle.report.proofs.page.Page.text.Given as goal

abbrev pub invariant-loop-byte : goal.invariant-loop-byte
invariant-loop-byte l = l.self ≡ put l.initial.self (take l.byte-index l.text)
