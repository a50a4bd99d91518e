-- Agreement of the calls in Rattle: for each, two answers that meet its contract for the same arguments are equal.
-- Assumes nothing.
use Rattle.std.specs.Prelude.{refl}
use Rattle.promises.specs.Call.{AsksNothing, Agrees, agree}
use Rattle.promises.specs.InsideCalls.{check-settings, check-text, tokenize, layout, layout_with_events, open_text, one_line_lem, first-affected, lay_again, text-height, line-y, make_index, make_index-again, find_line, write_file, read-file, choose, lay_pages, list_again, columns_fit, plan_columns}

-- None of them has a `requires`.
pub inside-asks-nothing : AsksNothing check-settings
    × AsksNothing check-text
    × AsksNothing tokenize
    × AsksNothing layout
    × AsksNothing layout_with_events
    × AsksNothing open_text
    × AsksNothing one_line_lem
    × AsksNothing first-affected
    × AsksNothing lay_again
    × AsksNothing text-height
    × AsksNothing line-y
    × AsksNothing make_index
    × AsksNothing make_index-again
    × AsksNothing find_line
    × AsksNothing write_file
    × AsksNothing read-file
    × AsksNothing choose
    × AsksNothing lay_pages
    × AsksNothing list_again
    × AsksNothing columns_fit
    × AsksNothing plan_columns
inside-asks-nothing = (
  λ κs a. tt,
  λ κs a. tt,
  λ κs a. tt,
  λ κs a. tt,
  λ κs a. tt,
  λ κs a. tt,
  λ κs a. tt,
  λ κs a. tt,
  λ κs a. tt,
  λ κs a. tt,
  λ κs a. tt,
  λ κs a. tt,
  λ κs a. tt,
  λ κs a. tt,
  λ κs a. tt,
  λ κs a. tt,
  λ κs a. tt,
  λ κs a. tt,
  λ κs a. tt,
  λ κs a. tt,
  λ κs a. tt,
)

pub check-settings_agrees : Agrees check-settings
check-settings_agrees κs a z z' ws ws' p q = (agree p q, refl)

pub check-text_agrees : Agrees check-text
check-text_agrees κs a z z' ws ws' p q = (agree p q, refl)

pub tokenize_agrees : Agrees tokenize
tokenize_agrees κs a z z' ws ws' p q = (agree p.0 q.0, λ i. (tt, (agree p.1 q.1 i, tt)))

pub layout_agrees : Agrees layout
layout_agrees κs a z z' ws ws' p q = (agree p.0 q.0, λ i. (tt, (tt, (agree p.1 q.1 i, tt))))

pub layout_with_events_agrees : Agrees layout_with_events
layout_with_events_agrees κs a z z' ws ws' p q = (
  agree p.0 q.0,
  λ i. (tt, (tt, (agree p.1.0 q.1.0 i, (agree p.1.1 q.1.1 i, tt)))),
)

pub open_text_agrees : Agrees open_text
open_text_agrees κs a z z' ws ws' p q = (agree p q, refl)

pub one-line_agrees : Agrees one_line_lem
one-line_agrees κs a z z' ws ws' p q = (agree p.0 q.0, λ i. (tt, (tt, (tt, (tt, (agree p.1 q.1 i, tt))))))

pub first-affected_agrees : Agrees first-affected
first-affected_agrees κs a z z' ws ws' p q = (agree p q, refl)

pub lay_again_agrees : Agrees lay_again
lay_again_agrees κs a z z' ws ws' p q = (agree p.0 q.0, λ i. (tt, (tt, (agree p.1 q.1 i, (tt, (tt, tt))))))

pub text-height_agrees : Agrees text-height
text-height_agrees κs a z z' ws ws' p q = (agree p q, refl)

pub line-y_agrees : Agrees line-y
line-y_agrees κs a z z' ws ws' p q = (agree p q, refl)

pub make_index_agrees : Agrees make_index
make_index_agrees κs a z z' ws ws' p q = (agree p.0 q.0, λ i. (tt, (tt, (tt, (agree p.1 q.1 i, tt)))))

pub make_index-again_agrees : Agrees make_index-again
make_index-again_agrees κs a z z' ws ws' p q = (agree p.0 q.0, λ i. (tt, (tt, (tt, (tt, (agree p.1 q.1 i, tt))))))

pub find_line_agrees : Agrees find_line
find_line_agrees κs a z z' ws ws' p q = (agree p q, refl)

pub write_file_agrees : Agrees write_file
write_file_agrees κs a z z' ws ws' p q = (agree p.0 q.0, λ i. (tt, (tt, (tt, (agree p.1 q.1 i, tt)))))

pub read-file_agrees : Agrees read-file
read-file_agrees κs a z z' ws ws' p q = (
  agree p.0 q.0,
  λ i. (tt, (agree p.1.0 q.1.0 i, (agree p.1.1 q.1.1 i, tt))),
)

pub choose_agrees : Agrees choose
choose_agrees κs a z z' ws ws' p q = (agree p q, refl)

pub lay_pages_agrees : Agrees lay_pages
lay_pages_agrees κs a z z' ws ws' p q = (
  agree p.0 q.0,
  λ i. (tt, (tt, (tt, (agree p.1.0 q.1.0 i, (agree p.1.1 q.1.1 i, tt))))),
)

pub list_again_agrees : Agrees list_again
list_again_agrees κs a z z' ws ws' p q = (agree p.0 q.0, λ i. (tt, (tt, (tt, (tt, (agree p.1 q.1 i, tt))))))

pub columns_fit_agrees : Agrees columns_fit
columns_fit_agrees κs a z z' ws ws' p q = (agree p q, refl)

pub plan_columns_agrees : Agrees plan_columns
plan_columns_agrees κs a z z' ws ws' p q = (agree p q, refl)
