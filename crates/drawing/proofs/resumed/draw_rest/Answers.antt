-- `drawing::resumed::draw_rest` meets its contract (rule 9, rule 13).
use Rattle.std.proofs.Common.{ℕ, ◌/◌, ◌+◌, ◌≤◌, sym, ap, ◌∙◌, arith, length}
use Rattle.ink.specs.Sheet.{sheet, drawn_on, on_none}
use Rattle.drawing.proofs.CutRestEvents.{fitting-inside, cut-none, cut-some-drawn}
use Rattle.drawing.proofs.resumed.draw_rest.Goals as goal

pub returns-then-n-eq0 : goal.returns-then-n-eq0
returns-then-n-eq0 c =
    let sh = sheet c.args.events.now c.args.pen in
    sym (on_none sh) ∙ ap (drawn_on sh) (sym (cut-none c.requires.0.pass c.requires.1 _ (ap (λ (k : ℕ). k / c.args.p.spaces.width.0) c.room.ensures) c.if-n-eq0.true))

pub put_one-requires : goal.put_one-requires
put_one-requires c = (
  omega (arith, c.requires.0.few, c.requires.0.pass.inside, c.requires.0.pass.short),
  omega (arith, c.requires.0.narrow, c.requires.0.pass.inside, c.requires.0.pass.short),
  omega (arith, c.requires.0.pass.inside, c.requires.0.pass.short),
  omega (arith, (let inside_here : c.args.at + c.room.result / c.args.p.spaces.width.0 ≤ length c.args.text.now = omega (arith, (ap (λ (k : ℕ). k / c.args.p.spaces.width.0) c.room.ensures), fitting-inside c.requires.0.pass c.requires.1) in inside_here), c.requires.0.pass.short),
)

pub returns : goal.returns
returns c =
    c.put_one.ensures
    ∙ ap (drawn_on (sheet c.args.events.now c.args.pen)) (sym (cut-some-drawn c.requires.0.pass c.requires.1 _ (ap (λ (k : ℕ). k / c.args.p.spaces.width.0) c.room.ensures) c.if-n-eq0.false))
