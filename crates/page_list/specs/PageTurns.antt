-- One turn of the loop that writes pages: what is written when those that are left are written stays the same (rule 10).
-- Assumes nothing.
use Rattle.std.specs.Prelude.{ℕ, ◌+◌, ◌*◌, ◌≤◌, ◌<◌, ◌≡◌, refl, get_or}
use Rattle.std.proofs.Math.Path.{sym, ap}
use Rattle.std.proofs.Common.{◌∙◌, suc-mul, add-one, arith}
use mathlib.Core.List.{List, [], ◌∷◌}
use Rattle.std.proofs.Math.ListN.{length, drop, drop_of_length-le}
use Rattle.basis.specs.Order.{by_lt}
use Rattle.meaning.specs.Table.{entry_numbers, entries_in, of_all}
use Rattle.meaning.specs.WellFormed.{text_length}
use Rattle.meaning.specs.Pages.{end_before, pages_of, page_numbers, of_page, written_past}
use Rattle.meaning.specs.declared.counts.Offset.{Offset}
use Rattle.meaning.specs.declared.line.Entry.{Entry}
use Rattle.meaning.specs.declared.page.Page.{Page}
use Rattle.laws.specs.PageLaws.{page_count, pages-count, pages-few, page-there, PageSaid, page-at}
use Rattle.laws.specs.TableLaws.{entries_length, page-numbers, pages-numbers}
use Rattle.page_list.specs.WrittenPast.{past_all}
use Rattle.table.specs.LinesFrom.{lines_from, lines_more, lines_end, start-at}
use Rattle.look.specs.MovableLines.{entries_from_lem}
use Rattle.table.specs.Numbers.{put_numbers}
use Rattle.table.specs.Stretches.{join_behind, put-none}
use Rattle.page_list.specs.PastWriting.{past-put, pages-dropped}

-- ---- one page

-- The page that begins with a line of a table.
unfoldable pub page_here : List ℕ → (lines h bytes first : ℕ) → Page
page_here t lines h b first =
    record {
      first = first;
      start = record { 0 = get_or t (entry_numbers * first) 0 };
      end = record { 0 = end_before b (lines_from t lines (first + h)) };
    }

-- Where the lines before a line end.
module _ (t : List ℕ) (lines b k : ℕ) where
  pub ends_at : k < lines → get_or t (entry_numbers * k) 0 ≡ end_before b (lines_from t lines k)
  unfolding end_before
  ends_at h = sym (rw (lines_more t lines k h) (start-at t k))

  pub ends_last : lines ≤ k → b ≡ end_before b (lines_from t lines k)
  unfolding end_before
  ends_last h = sym (rw (lines_end t lines k h))

-- ---- all pages

-- What the public calls have checked.
pub record Listable (t : List ℕ) (lines h : ℕ) (pages : List ℕ) : Type 0 where
  pub held : entry_numbers * lines ≤ length t
  pub few : lines ≤ 65536
  pub some : 1 ≤ lines
  pub limit : 1 ≤ h
  pub room : page_numbers * page_count h lines ≤ length pages

module _ (t : List ℕ) (lines h : ℕ) where
  abbrev es : List Entry
  es = entries_in lines t

  abbrev ps : List Page
  ps = pages_of h es

  -- A list with the pages from page k on written to their places.
  abbrev put : List ℕ → (k : ℕ) → List ℕ
  put pages k = put_numbers pages (page_numbers * k) (of_all of_page (drop k ps))

  -- The pages before page k are written to the list u, which is v now, or kept; page k begins with this line.
  pub record Listed (kept : ℕ) (u v : List ℕ) (k first : ℕ) : Type 0 where
    pub at : first ≡ k * h
    pub same : length v ≡ length u
    pub left : put v k ≡ written_past (page_numbers * kept) u (of_all of_page ps)

  module _ (u : List ℕ) (c : Listable t lines h u) where
    many : length ps ≡ page_count h lines
    many = pages-count h c.limit es ∙ ap (page_count h) (entries_length lines t)

    numbers : length (of_all of_page ps) ≡ page_numbers * page_count h lines
    numbers = pages-numbers ps ∙ ap (λ (n : ℕ). page_numbers * n) many

    -- All pages are kept.
    pub all-kept : (kept : ℕ) → page_count h lines ≤ kept → u ≡ written_past (page_numbers * kept) u (of_all of_page ps)
    all-kept kept p = sym (past_all (page_numbers * kept) u (of_all of_page ps) (omega (arith, numbers)))

    module _ (kept : ℕ) where
      -- Some are left to be written, or none.
      some_left : kept < page_count h lines → put u kept ≡ written_past (page_numbers * kept) u (of_all of_page ps)
      some_left p =
          sym
          (past-put (page_numbers * kept) u (of_all of_page ps) (omega (arith, c.room))
          ∙ ap (put_numbers u (page_numbers * kept)) (pages-dropped kept ps))

      none_left : page_count h lines ≤ kept → put u kept ≡ written_past (page_numbers * kept) u (of_all of_page ps)
      unfolding of_all
      none_left p =
          let none : drop kept ps ≡ [] = drop_of_length-le ps {i = kept} (omega (arith, many)) in
          ap (λ (qs : List Page). put_numbers u (page_numbers * kept) (of_all of_page qs)) none
          ∙ put-none u (page_numbers * kept)
          ∙ all-kept kept p

      pub list_start : Listed kept u u kept (kept * h)
      list_start = record { at = refl; same = refl; left = by_lt kept (page_count h lines) some_left none_left }

      module _ (v : List ℕ) (k first : ℕ) (l : Listed kept u v k first) where
        -- No page is left.
        pub list_end : page_count h lines ≤ k → v ≡ written_past (page_numbers * kept) u (of_all of_page ps)
        unfolding of_all
        list_end p =
            let none : drop k ps ≡ [] = drop_of_length-le ps {i = k} (omega (arith, many)) in
            sym (put-none v (page_numbers * k)) ∙ (rw none at l.left)

        module _ (p : first < lines) where
          there : k < length ps
          there = page-there h c.limit k es (omega (arith, l.at, entries_length lines t))

          -- The list has room for the next page.
          pub page-room : page_numbers * k + page_numbers ≤ length v
          page-room = omega (arith, there, many, l.same, c.room)

          -- No count of pages wraps.
          pub page-low : k < 65536
          page-low = omega (arith, there, pages-few h es, entries_length lines t, c.few)

          said : PageSaid h k es
          said = page-at h c.limit k es there

          dropped : (j : ℕ) → drop j es ≡ lines_from t lines j
          unfolding lines_from
          dropped j = entries_from_lem j lines t

          abbrev b : ℕ
          b = text_length es

          begins : said.page.start.0 ≡ get_or t (entry_numbers * first) 0
          unfolding end_before
          begins =
              ap (λ (o : Offset). o.0) said.start
              ∙ ap (end_before b) (sym said.lines ∙ dropped (k * h) ∙ ap (lines_from t lines) (sym l.at))
              ∙ sym (ends_at t lines b first p)

          stops : said.page.end.0 ≡ end_before b (lines_from t lines (first + h))
          stops =
              let e : k * h + h ≡ first + h = omega (arith, l.at) in
              said.end ∙ ap (end_before b) (dropped (k * h + h) ∙ ap (lines_from t lines) e)

          -- It is the page that begins with that line.
          page-is : said.page ≡ page_here t lines h b first
          unfolding page_here
          page-is =
              let e : said.page.first ≡ first = omega (arith, said.first, l.at) in
              λ i. record { first = e i; start = record { 0 = begins i }; end = record { 0 = stops i } }

          pages-here : drop k ps ≡ page_here t lines h b first ∷ drop (k + 1) ps
          pages-here = said.is ∙ rw (page-is, add-one k)

          -- It is written.
          pub list_next : (w : List ℕ) → w ≡ put_numbers v (page_numbers * k) (of_page (page_here t lines h b first)) → length w ≡ length v
              → Listed kept u w (k + 1) (first + h)
          unfolding of_all
          list_next w is n =
              let page = page_here t lines h b first in
              let more = of_all of_page (drop (k + 1) ps) in
              let m : (k + 1) * h ≡ k * h + h = rw (add-one k) (suc-mul k h) in
              let place : page_numbers * (k + 1) ≡ page_numbers * k + length (of_page page) = omega (arith, page-numbers page) in
              record {
                at = omega (arith, l.at, m);
                same = n ∙ l.same;
                left =
                    (λ i. put_numbers (is i) (place i) more)
                    ∙ join_behind v (page_numbers * k) (of_page page) (omega (arith, page-room)) more
                    ∙ ap (λ (qs : List Page). put_numbers v (page_numbers * k) (of_all of_page qs)) (sym pages-here)
                    ∙ l.left;
              }
