-- Agreement of the calls for C: for each, two answers that meet its contract for the same arguments are equal, with every number and
-- every buffer that is written.
-- Assumes nothing.
use Rattle.promises.specs.Call.{AsksNothing, Agrees, agree}
use Rattle.promises.specs.Passed.{none_left}
use Rattle.promises.specs.ForCCalls.{c-check-settings, c-check-text, c-tokens, c-layout, c-layout-events, c_open, c-one-line, c-first-affected, c_lay_again, c-height, c-line-y, c-index, c-index-again, c_find_line, c_write_file, c-read-file, c-choose, c-pages, c-pages-again, c-columns_fit, c-columns_plan}

-- None of them has a `requires`.
pub for_c-asks-nothing : AsksNothing c-check-settings
    × AsksNothing c-check-text
    × AsksNothing c-tokens
    × AsksNothing c-layout
    × AsksNothing c-layout-events
    × AsksNothing c_open
    × AsksNothing c-one-line
    × AsksNothing c-first-affected
    × AsksNothing c_lay_again
    × AsksNothing c-height
    × AsksNothing c-line-y
    × AsksNothing c-index
    × AsksNothing c-index-again
    × AsksNothing c_find_line
    × AsksNothing c_write_file
    × AsksNothing c-read-file
    × AsksNothing c-choose
    × AsksNothing c-pages
    × AsksNothing c-pages-again
    × AsksNothing c-columns_fit
    × AsksNothing c-columns_plan
for_c-asks-nothing = (
  λ κs a. tt,
  λ κs a. tt,
  λ κs a. tt,
  λ κs a. tt,
  λ κs a. tt,
  λ κs a. tt,
  λ κs a. tt,
  λ κs a. tt,
  λ κs a. tt,
  λ κs a. tt,
  λ κs a. tt,
  λ κs a. tt,
  λ κs a. tt,
  λ κs a. tt,
  λ κs a. tt,
  λ κs a. tt,
  λ κs a. tt,
  λ κs a. tt,
  λ κs a. tt,
  λ κs a. tt,
  λ κs a. tt,
)

pub c-check-settings_agrees : Agrees c-check-settings
c-check-settings_agrees κs a z z' ws ws' p q = (agree p.0 q.0, λ i. none_left (agree p.1 q.1 i, tt))

pub c-check-text_agrees : Agrees c-check-text
c-check-text_agrees κs a z z' ws ws' p q = (agree p.0 q.0, λ i. (tt, (agree p.1 q.1 i, tt)))

pub c-tokens_agrees : Agrees c-tokens
c-tokens_agrees κs a z z' ws ws' p q = (agree p.0 q.0, λ i. (tt, (agree p.1.0 q.1.0 i, (agree p.1.1 q.1.1 i, tt))))

pub c-layout_agrees : Agrees c-layout
c-layout_agrees κs a z z' ws ws' p q = (
  agree p.0 q.0,
  λ i. none_left (tt, (agree p.1.0 q.1.0 i, (agree p.1.1 q.1.1 i, tt))),
)

pub c-layout-events_agrees : Agrees c-layout-events
c-layout-events_agrees κs a z z' ws ws' p q = (
  agree p.0 q.0,
  λ i. none_left (tt, (agree p.1.0 q.1.0 i, (agree p.1.1.0 q.1.1.0 i, (agree p.1.1.1.0 q.1.1.1.0 i, (agree p.1.1.1.1 q.1.1.1.1 i, tt))))),
)

pub c_open_agrees : Agrees c_open
c_open_agrees κs a z z' ws ws' p q = (agree p.0 q.0, λ i. none_left (tt, (agree p.1 q.1 i, tt)))

pub c-one-line_agrees : Agrees c-one-line
c-one-line_agrees κs a z z' ws ws' p q = (
  agree p.0 q.0,
  λ i.
      none_left (
        tt,
        (
          tt,
          (
            tt,
            (
              tt,
              (
                agree p.1.0 q.1.0 i,
                (agree p.1.1.0 q.1.1.0 i, (agree p.1.1.1.0 q.1.1.1.0 i, (agree p.1.1.1.1 q.1.1.1.1 i, tt))),
              ),
            ),
          ),
        ),
      ),
)

pub c-first-affected_agrees : Agrees c-first-affected
c-first-affected_agrees κs a z z' ws ws' p q = (agree p.0 q.0, λ i. (tt, (tt, (tt, (tt, (tt, (agree p.1 q.1 i, tt)))))))

pub c_lay_again_agrees : Agrees c_lay_again
c_lay_again_agrees κs a z z' ws ws' p q = (
  agree p.0 q.0,
  λ i. none_left (tt, (agree p.1.0 q.1.0 i, (tt, (tt, (tt, (tt, (agree p.1.1.0 q.1.1.0 i, (agree p.1.1.1 q.1.1.1 i, tt)))))))),
)

pub c-height_agrees : Agrees c-height
c-height_agrees κs a z z' ws ws' p q = (agree p.0 q.0, λ i. none_left (tt, (tt, (agree p.1 q.1 i, tt))))

pub c-line-y_agrees : Agrees c-line-y
c-line-y_agrees κs a z z' ws ws' p q = (
  agree p.0 q.0,
  λ i. none_left (tt, (tt, (tt, (agree p.1.0 q.1.0 i, (agree p.1.1 q.1.1 i, tt))))),
)

pub c-index_agrees : Agrees c-index
c-index_agrees κs a z z' ws ws' p q = (
  agree p.0 q.0,
  λ i. none_left (tt, (tt, (agree p.1.0 q.1.0 i, (agree p.1.1 q.1.1 i, tt)))),
)

pub c-index-again_agrees : Agrees c-index-again
c-index-again_agrees κs a z z' ws ws' p q = (
  agree p.0 q.0,
  λ i. none_left (tt, (tt, (tt, (agree p.1.0 q.1.0 i, (agree p.1.1 q.1.1 i, tt))))),
)

pub c_find_line_agrees : Agrees c_find_line
c_find_line_agrees κs a z z' ws ws' p q = (agree p.0 q.0, λ i. (tt, (tt, (tt, (tt, (agree p.1 q.1 i, tt))))))

pub c_write_file_agrees : Agrees c_write_file
c_write_file_agrees κs a z z' ws ws' p q = (
  agree p.0 q.0,
  λ i. none_left (tt, (tt, (agree p.1.0 q.1.0 i, (agree p.1.1 q.1.1 i, tt)))),
)

pub c-read-file_agrees : Agrees c-read-file
c-read-file_agrees κs a z z' ws ws' p q = (
  agree p.0 q.0,
  λ i. (tt, (agree p.1.0 q.1.0 i, (agree p.1.1.0 q.1.1.0 i, (agree p.1.1.1.0 q.1.1.1.0 i, (agree p.1.1.1.1 q.1.1.1.1 i, tt))))),
)

pub c-choose_agrees : Agrees c-choose
c-choose_agrees κs a z z' ws ws' p q = (
  agree p.0 q.0,
  λ i. none_left (tt, (tt, (tt, (agree p.1.0 q.1.0 i, (agree p.1.1.0 q.1.1.0 i, (agree p.1.1.1 q.1.1.1 i, tt)))))),
)

pub c-pages_agrees : Agrees c-pages
c-pages_agrees κs a z z' ws ws' p q = (
  agree p.0 q.0,
  λ i.
      none_left (
        tt,
        (
          tt,
          (
            agree p.1.0 q.1.0 i,
            (agree p.1.1.0 q.1.1.0 i, (agree p.1.1.1.0 q.1.1.1.0 i, (agree p.1.1.1.1 q.1.1.1.1 i, tt))),
          ),
        ),
      ),
)

pub c-pages-again_agrees : Agrees c-pages-again
c-pages-again_agrees κs a z z' ws ws' p q = (
  agree p.0 q.0,
  λ i. (tt, (tt, (tt, (tt, (agree p.1.0 q.1.0 i, (agree p.1.1 q.1.1 i, tt)))))),
)

pub c-columns_fit_agrees : Agrees c-columns_fit
c-columns_fit_agrees κs a z z' ws ws' p q = (agree p.0 q.0, λ i. none_left (tt, (tt, (agree p.1 q.1 i, tt))))

pub c-columns_plan_agrees : Agrees c-columns_plan
c-columns_plan_agrees κs a z z' ws ws' p q = (agree p.0 q.0, λ i. none_left (tt, (tt, (agree p.1 q.1 i, tt))))
