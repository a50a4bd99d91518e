-- `rows::line::lay_line` meets its contract (rule 10).
use Rattle.std.proofs.Common.{refl, ap, subst, ◌∙◌}
use Rattle.placing.specs.Taken.{Taken}
use Rattle.placing.specs.Quick.{DrawnAlike, QuickLine}
use Rattle.placing.specs.LayLaws.{rested, alike-few, laid-alike}
use Rattle.rows.specs.Standing.{row_of}
use Rattle.rows.proofs.line.lay_line.Goals as goal

pub quick_line-requires : goal.quick_line-requires
quick_line-requires c =
    (rested c.requires.0 c.if-rest-eq0.true, c.requires.1)

pub laid_alike-requires : goal.laid_alike-requires
laid_alike-requires c =
    (c.requires.0.settings, alike-few c.requires.0 c.if-rest-eq0.true _ ((let alike_here : DrawnAlike c.args.s c.args.text.now c.args.at c.in-Some.q.ended × Taken c.args.text.now c.args.at c.in-Some.q.ended.next.0 c.in-Some.q.taken.0 = subst (QuickLine c.args.s c.args.text.now c.args.at) c.in-Some.is c.quick_line.ensures in alike_here)).0)

pub returns-in-Some : goal.returns-in-Some
returns-in-Some c =
    c.laid_alike.ensures ∙ ap row_of (laid-alike c.requires.0 c.if-rest-eq0.true _ ((let alike_here : DrawnAlike c.args.s c.args.text.now c.args.at c.in-Some.q.ended × Taken c.args.text.now c.args.at c.in-Some.q.ended.next.0 c.in-Some.q.taken.0 = subst (QuickLine c.args.s c.args.text.now c.args.at) c.in-Some.is c.quick_line.ensures in alike_here)).0 _ _ ((let alike_here : DrawnAlike c.args.s c.args.text.now c.args.at c.in-Some.q.ended × Taken c.args.text.now c.args.at c.in-Some.q.ended.next.0 c.in-Some.q.taken.0 = subst (QuickLine c.args.s c.args.text.now c.args.at) c.in-Some.is c.quick_line.ensures in alike_here)).1 _ refl)

pub cut_line-requires : goal.cut_line-requires
cut_line-requires c =
    (rested c.requires.0 c.if-rest-eq0.true, c.known_here-here.ensures)

pub laid_alike-requires-in-Some-cut_line : goal.laid_alike-requires-in-Some-cut_line
laid_alike-requires-in-Some-cut_line c =
    (c.requires.0.settings, alike-few c.requires.0 c.if-rest-eq0.true _ ((let cut-alike_here : DrawnAlike c.args.s c.args.text.now c.args.at c.in-Some-cut_line.q.ended × Taken c.args.text.now c.args.at c.in-Some-cut_line.q.ended.next.0 c.in-Some-cut_line.q.taken.0 = subst (QuickLine c.args.s c.args.text.now c.args.at) c.in-Some-cut_line.is c.cut_line.ensures in cut-alike_here)).0)

pub returns-in-Some-cut_line : goal.returns-in-Some-cut_line
returns-in-Some-cut_line c =
    c.laid_alike-in-Some-cut_line.ensures ∙ ap row_of (laid-alike c.requires.0 c.if-rest-eq0.true _ ((let cut-alike_here : DrawnAlike c.args.s c.args.text.now c.args.at c.in-Some-cut_line.q.ended × Taken c.args.text.now c.args.at c.in-Some-cut_line.q.ended.next.0 c.in-Some-cut_line.q.taken.0 = subst (QuickLine c.args.s c.args.text.now c.args.at) c.in-Some-cut_line.is c.cut_line.ensures in cut-alike_here)).0 _ _ ((let cut-alike_here : DrawnAlike c.args.s c.args.text.now c.args.at c.in-Some-cut_line.q.ended × Taken c.args.text.now c.args.at c.in-Some-cut_line.q.ended.next.0 c.in-Some-cut_line.q.taken.0 = subst (QuickLine c.args.s c.args.text.now c.args.at) c.in-Some-cut_line.is c.cut_line.ensures in cut-alike_here)).1 _ refl)

-- ---- any other line
pub lay_twice-x-requires : goal.lay_twice-x-requires
lay_twice-x-requires c =
    (c.requires.0, c.known_here-here.ensures)

pub returns-then-rest-eq0 : goal.returns-then-rest-eq0
returns-then-rest-eq0 c =
    c.laid_by.ensures ∙ ap row_of (c.lay_twice-x.ensures _)

pub returns : goal.returns
returns c =
    c.laid_by-2.ensures ∙ ap row_of (c.lay_twice-x-2.ensures _)
