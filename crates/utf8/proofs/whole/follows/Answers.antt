-- `utf8::whole::follows` meets its contract (refusal 4).
use Rattle.std.proofs.Common.{ap, Bool, ◌&&◌, ◌||◌, not, leb}
use Rattle.basis.specs.Order.{within}
use Rattle.utf8.proofs.whole.follows.Goals as goal

pub returns : goal.returns
returns c =
    let ask = leb 0xC0 c.args.b || leb 0xE0 c.args.a in
    let on = within 0x80 0xBF c.args.c in
    ap (λ (r : Bool). ((ask && on) || not (ask || on)) && r) c.is_told.ensures
