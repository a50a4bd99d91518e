-- `strides::next::fitted` meets its contract (rule 8).
use Rattle.std.proofs.Common.{◌*◌, ◌≤◌, arith}
use Rattle.meaning.specs.Cursor.{room_of}
use Rattle.meaning.specs.SpaceConfig.{spaces_width}
use Rattle.moves.specs.FineLaws.{times_bound}
use Rattle.strides.specs.Strides.{waiting_at}
use Rattle.strides.specs.NextLaws.{fitted-waits, fitted-takes}
use Rattle.strides.proofs.next.fitted.Goals as goal

pub overflow_mul-wide : goal.overflow_mul-wide
overflow_mul-wide c =
    record { fits = omega (arith, (times_bound {n = 65535} c.args.pair.word.chars.0 c.args.s.glyph.0 c.requires.2 c.requires.1)) }

pub overflow_add-wide : goal.overflow_add-wide
unfolding spaces_width
overflow_add-wide c =
    record { fits = omega (arith, (times_bound {n = 65535} c.args.pair.word.chars.0 c.args.s.glyph.0 c.requires.2 c.requires.1), (let thin_here : c.spaces_width-space.result ≤ 4161 = omega (arith, c.spaces_width-space.ensures, c.requires.0) in thin_here)) }

pub returns-then-room-wide : goal.returns-then-room-wide
unfolding waiting_at
returns-then-room-wide c =
    fitted-waits _ _ _ _ c.room.ensures _ c.spaces_width-space.ensures c.if-room-wide.true

pub overflow_add-p : goal.overflow_add-p
unfolding room_of
overflow_add-p c =
    record { fits = omega (arith, c.requires.0, c.if-room-wide.false, c.room.ensures) }

pub returns : goal.returns
returns c =
    fitted-takes _ _ _ _ c.room.ensures _ c.spaces_width-space.ensures c.if-room-wide.false _ c.spaces_after-left.ensures _ c.spaces_after-more.ensures _ c.strode-place.ensures
