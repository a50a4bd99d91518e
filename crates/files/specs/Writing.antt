-- A layout file as the running calls write it: field behind field.
-- Assumes nothing.
use Rattle.std.specs.Prelude.{ℕ, ◌+◌, ◌*◌, ◌/◌, ◌%◌, ◌≤◌, ◌≡◌, refl, take, drop}
use Rattle.std.proofs.Common.{sym, ◌∙◌, add-one, arith, length-drop}
use Rattle.std.proofs.Math.Path.{ap}
use mathlib.Core.List.{List, [], ◌∷◌, ◌++◌, append_assoc, append-nil}
use Rattle.std.proofs.Math.ListN.{length, length-append}
use Rattle.meaning.specs.Table.{entry_numbers, of_entry, of_all, entry_in, entries_in}
use Rattle.meaning.specs.LayoutFile.{header_bytes, number_bytes, settings_numbers, settings_tag, length_tag, line_tag, end_tag, settings_size, line_size, line_bytes, length_at, lines_at, bytes_of, bits_of, field, of_settings, settings_field, length_field, line_field, line_fields, file_of, file_bytes}
use Rattle.meaning.specs.declared.settings.Settings.{Settings}
use Rattle.meaning.specs.declared.line.Entry.{Entry}
use Rattle.laws.specs.TableLaws.{all-numbers, all_append, entries_length, numbers-read}
use Rattle.file_fields.specs.FileNumbers.{number_bytes_lem}
use Rattle.file_fields.specs.FileFields.{field-length, line_body, line-length}
use Rattle.files.specs.FileLaws.{settings_body}
use Rattle.table.specs.Numbers.{put_numbers}
use Rattle.table.specs.Stretches.{join_behind, entries_last}
use Rattle.file_fields.specs.Putting.{put-field}

-- A header, and behind it what it says.
abbrev header : (tag size : ℕ) → List ℕ
header tag size = tag ∷ size % 256 ∷ size / 256 ∷ []

field_put : (t u v : List ℕ) (at tag size : ℕ) (body : List ℕ) → u ≡ put_numbers t at (header tag size) → v ≡ put_numbers u (at + header_bytes) body
    → length body ≡ size → at ≤ length t → v ≡ put_numbers t at (field tag body)
field_put t u v at tag size body p q e h =
    q ∙ ap (λ (l : List ℕ). put_numbers l (at + header_bytes) body) p ∙ put-field t at tag size body e h

-- ---- the settings and the text's length

-- The thirteen numbers, with the top as it was found.
pub numbers-are : (s : Settings) (n : ℕ) → n ≡ bits_of s.top
    → s.glyph.0 ∷ s.width.0 ∷ s.tab.0 ∷ s.spacing.0 ∷ s.paragraph.0 ∷ s.base.0 ∷ s.height.0 ∷ n ∷ s.alignment ∷ s.vertical
    ∷ s.leading ∷ s.trailing ∷ s.wrap ∷ []
    ≡ of_settings s
unfolding of_settings
numbers-are s n e = rw e

pub settings-put : (t u v xs : List ℕ) (s : Settings) → u ≡ put_numbers t 0 (header settings_tag settings_size)
    → v ≡ put_numbers u header_bytes (of_all bytes_of (take settings_numbers xs)) → xs ≡ of_settings s → v ≡ put_numbers t 0 (settings_field s)
unfolding settings_field of_settings
settings-put t u v xs s p q e =
    field_put t u v 0 settings_tag settings_size (of_all bytes_of (of_settings s)) p
    (q ∙ ap (λ (l : List ℕ). put_numbers u header_bytes (of_all bytes_of (take settings_numbers l))) e)
    (settings_body s) (omega arith)

pub length-put : (t u v : List ℕ) (n : ℕ) → u ≡ put_numbers t length_at (header length_tag number_bytes)
    → v ≡ put_numbers u (length_at + header_bytes) (bytes_of n) → length_at ≤ length t → v ≡ put_numbers t length_at (length_field n)
unfolding length_field
length-put t u v n p q h = field_put t u v length_at length_tag number_bytes (bytes_of n) p q (number_bytes_lem n) h

-- ---- the lines

pub line-put : (t u v table : List ℕ) (at k : ℕ) → u ≡ put_numbers t at (header line_tag line_size)
    → v ≡ put_numbers u (at + header_bytes) (of_all bytes_of (take entry_numbers (drop (entry_numbers * k) table))) → at ≤ length t
    → entry_numbers * k + entry_numbers ≤ length table → v ≡ put_numbers t at (line_field (entry_in (drop (entry_numbers * k) table)))
unfolding line_field
line-put t u v table at k p q h r =
    let row = drop (entry_numbers * k) table in
    field_put t u v at line_tag line_size (of_all bytes_of (of_entry (entry_in row))) p
    (q ∙ ap (λ (l : List ℕ). put_numbers u (at + header_bytes) (of_all bytes_of l)) (sym (numbers-read row (omega (arith, length-drop (entry_numbers * k) table)))))
    (line_body (entry_in row)) h

lines-bytes : (es : List Entry) → length (of_all line_field es) ≡ line_bytes * length es
lines-bytes = all-numbers line_field line_bytes line-length

pub lines_next : (t u table : List ℕ) (k : ℕ) → u ≡ put_numbers t lines_at (of_all line_field (entries_in k table)) → lines_at ≤ length t
    → put_numbers u (lines_at + line_bytes * k) (line_field (entry_in (drop (entry_numbers * k) table)))
    ≡ put_numbers t lines_at (of_all line_field (entries_in (k + 1) table))
unfolding of_all
lines_next t u table k p h =
    let es = entries_in k table in
    let e = entry_in (drop (entry_numbers * k) table) in
    let at : lines_at + line_bytes * k ≡ lines_at + length (of_all line_field es) = omega (arith, lines-bytes es, entries_length k table) in
    ap (λ (l : List ℕ). put_numbers l (lines_at + line_bytes * k) (line_field e)) p
    ∙ ap (λ (i : ℕ). put_numbers (put_numbers t lines_at (of_all line_field es)) i (line_field e)) at
    ∙ join_behind t lines_at (of_all line_field es) h (line_field e)
    ∙ ap (λ (l : List ℕ). put_numbers t lines_at (of_all line_field es ++ l)) (sym (append-nil (line_field e)))
    ∙ ap (put_numbers t lines_at) (sym (all_append line_field es (e ∷ [])) ∙ ap (of_all line_field) (sym (entries_last k table) ∙ ap (λ (n : ℕ). entries_in n table) (sym (add-one k))))

-- The end stands behind the lines.
lines_end : (es : List Entry) → of_all line_field es ++ field end_tag [] ≡ line_fields es
unfolding of_all line_fields
lines_end [] = refl
lines_end (e ∷ es) = append_assoc (line_field e) (of_all line_field es) (field end_tag []) ∙ ap (λ (l : List ℕ). line_field e ++ l) (lines_end es)

pub rows-put : (t u v table : List ℕ) (lines : ℕ) → u ≡ put_numbers t lines_at (of_all line_field (entries_in lines table))
    → v ≡ put_numbers u (lines_at + line_bytes * lines) (header end_tag 0) → lines_at ≤ length t
    → v ≡ put_numbers t lines_at (line_fields (entries_in lines table))
unfolding field
rows-put t u v table lines p q h =
    let es = entries_in lines table in
    let at : lines_at + line_bytes * lines ≡ lines_at + length (of_all line_field es) = omega (arith, lines-bytes es, entries_length lines table) in
    q
    ∙ ap (λ (l : List ℕ). put_numbers l (lines_at + line_bytes * lines) (field end_tag [])) p
    ∙ ap (λ (i : ℕ). put_numbers (put_numbers t lines_at (of_all line_field es)) i (field end_tag [])) at
    ∙ join_behind t lines_at (of_all line_field es) h (field end_tag [])
    ∙ ap (put_numbers t lines_at) (lines_end es)

-- ---- all fields

module _ (t : List ℕ) (s : Settings) (n : ℕ) (es : List Entry) where
  settings-long : length (settings_field s) ≡ length_at
  unfolding settings_field
  settings-long = field-length settings_tag (of_all bytes_of (of_settings s)) ∙ ap (λ (m : ℕ). header_bytes + m) (settings_body s)

  length-long : length (length_field n) ≡ header_bytes + number_bytes
  unfolding length_field
  length-long = field-length length_tag (bytes_of n) ∙ ap (λ (m : ℕ). header_bytes + m) (number_bytes_lem n)

  pub fields_put : (u v w : List ℕ) (m : ℕ) → u ≡ put_numbers t 0 (settings_field s) → v ≡ put_numbers u length_at (length_field m) → m ≡ n
      → w ≡ put_numbers v lines_at (line_fields es) → file_bytes (length es) ≤ length t → w ≡ put_numbers t 0 (file_of s n es)
  unfolding file_of file_bytes
  fields_put u v w m p o mn r h =
      let q : v ≡ put_numbers u length_at (length_field n) = o ∙ ap (λ (k : ℕ). put_numbers u length_at (length_field k)) mn in
      let a : length_at ≡ 0 + length (settings_field s) = omega (arith, settings-long) in
      let two = settings_field s ++ length_field n in
      let b : lines_at ≡ 0 + length two = omega (arith, settings-long, length-long, length-append (settings_field s) (length_field n)) in
      let front : v ≡ put_numbers t 0 two =
      q
      ∙ ap (λ (l : List ℕ). put_numbers l length_at (length_field n)) p
      ∙ ap (λ (i : ℕ). put_numbers (put_numbers t 0 (settings_field s)) i (length_field n)) a
      ∙ join_behind t 0 (settings_field s) (omega arith) (length_field n) in
      r
      ∙ ap (λ (l : List ℕ). put_numbers l lines_at (line_fields es)) front
      ∙ ap (λ (i : ℕ). put_numbers (put_numbers t 0 two) i (line_fields es)) b
      ∙ join_behind t 0 two (omega arith) (line_fields es)
      ∙ ap (put_numbers t 0) (append_assoc (settings_field s) (length_field n) (line_fields es))
