-- Each part is read behind the one before it, so together they are the bytes of the case. What the second fill of the numbers
-- wrote stands behind what the first wrote, and what neither wrote is 0 as it was.
use Rattle.std.proofs.Common.{arith, ◌≡◌, ◌+◌, ◌-◌, length}
use Rattle.std.proofs.KnownBytes.{Consumes-trans}
use Rattle.wire.proofs.Parts.{take_put, drop_put, part_fits, zeros_behind}
use Rattle.wire.proofs.case.read.Goals as goal

pub returns-clause-read : goal.returns-clause-read
returns-clause-read g c =
    let n = c.args.shape.numbers in
    let whole : n + (2048 - n) ≡ length c.fill.new.bytes = omega (arith, c.in_ok-fill.ensures.room) in
    rw (take_put n (2048 - n) c.fill.new.bytes c.fill-2.new.bytes whole, drop_put n (2048 - n) c.fill.new.bytes c.fill-2.new.bytes whole)
    (Consumes-trans _ _ _ _ _ (Consumes-trans _ _ _ _ _ (Consumes-trans _ _ _ _ _ (Consumes-trans _ _ _ _ _ c.in_ok-table.ensures.read c.in_ok-fill.ensures.read) c.in_ok-list.ensures.read) c.in_ok-fill-2.ensures.read) c.in_ok-room.ensures.read)

pub returns-clause-shape : goal.returns-clause-shape
returns-clause-shape g c =
    let n = c.args.shape.numbers in
    let whole : n + (2048 - n) ≡ length c.fill.new.bytes = omega (arith, c.in_ok-fill.ensures.room) in
    record {
      table = c.in_ok-table.ensures.most;
      list = c.in_ok-list.ensures.most;
      room = c.in_ok-room.ensures.most;
      numbers = omega (arith, part_fits n (2048 - n) _ c.fill.new.bytes c.fill-2.new.bytes whole c.fill-2.auto.bytes c.in_ok-fill-2.ensures.room);
      behind = zeros_behind n (2048 - n) _ 2048 c.fill.new.bytes c.fill-2.new.bytes whole c.in_ok-fill.ensures.behind c.in_ok-fill-2.ensures.behind;
    }
