-- The text of a shadow is read as that shadow.
use Rattle.std.proofs.Common.{◌≡◌, ℕ, List, [], ◌∷◌, ◌++◌, refl, ◌∙◌, ap, length, Option, None, Ok}
use Rattle.std.specs.Prelude.{codes}
use Rattle.std.specs.List.{flat_map}
use Rattle.rt_check_dump.specs.declared.lines.LineKind.{LineKind}
use Rattle.rt_check_dump.specs.declared.reading.Heading.{Heading}
use Rattle.rt_check_dump.specs.declared.dump.AnyShadow.{AnyShadow}
use Rattle.rt_check_dump.specs.declared.dump.AnyShadow.TheVariants.{One, Two, Three}
use Rattle.rt_check.specs.Shadow.{ShadowLists}
use Rattle.rt_check_dump.specs.Pieces.{pieces}
use Rattle.rt_check_dump.specs.Lines.{kind_of, header_of}
use Rattle.rt_check_dump.specs.Dump.{node_text, row_line, end_line, shadow_text, any_text}
use Rattle.rt_check_dump.specs.Reading.{read_rest, read_kind, read_heading, read_body, read_lines, read_text, start, any_shadow}
use Rattle.rt_check_dump.specs.InRange.{IsInRange, IsNumbered, IsAnyInRange, IsAnyNumbered}
use Rattle.rt_check_dump.proofs.Cuts.{pieces-some, read_lines-first}
use Rattle.rt_check_dump.proofs.WrittenPieces.{IsWord, spaced, words-spaced, pieces-line}
use Rattle.rt_check_dump.proofs.WrittenLines.{header_words, header-words, header-kind, header-read, heading_of}
use Rattle.rt_check_dump.proofs.Written.{nodes-read, rows-read}

-- the lines after the header
abbrev pub body_text : {D : ℕ} → ShadowLists D → List ℕ
body_text s = flat_map node_text s.nodes ++ (flat_map row_line s.rows ++ end_line)

body-read : {D : ℕ} (s : ShadowLists D) → IsInRange s → IsNumbered s → read_rest (pieces 10 (body_text s)) (start D (heading_of s)) 2 ≡ Ok s
body-read {D} s fits numbered =
    let last = rows-read s.capacity s.root s.nodes [] s.rows fits.rows numbered.leaves fits.ids in
    nodes-read s.capacity s.root (length s.rows) (flat_map row_line s.rows ++ end_line) s [] s.nodes fits.some fits.nodes numbered.nodes fits.numbers last 2

text-read : {D : ℕ} (s : ShadowLists D) → IsInRange s → IsNumbered s → read_text (shadow_text s) ≡ read_body (heading_of s) (pieces 10 (body_text s))
text-read {D} s fits numbered =
    let kind = codes "rtree" in
    let ls = pieces 10 (body_text s) in
    let first : IsWord (codes "rtree") = record { one_word = refl; one_line = refl } in
    let others = header-words s fits.axes fits.capacity fits.root fits.few_nodes fits.few_rows in
    ap read_lines (pieces-line kind (header_words s) (body_text s) first others)
    ∙ read_lines-first (kind ++ spaced (header_words s)) ls (pieces-some 10 (body_text s))
    ∙ ap (λ ws. read_kind (kind_of None ws) (header_of ws) ls) (words-spaced kind (header_words s) first others)
    ∙ ap (λ (k : Option LineKind). read_kind k (header_of (kind ∷ header_words s)) ls) (header-kind s fits.axes fits.capacity fits.root fits.few_nodes fits.few_rows)
    ∙ ap (λ (h : Option Heading). read_heading h ls) (header-read s fits.some fits.axes fits.capacity fits.root numbered.root fits.few_nodes fits.few_rows)

-- what is written is read again
pub written-read : (s : AnyShadow) → IsAnyInRange s → IsAnyNumbered s → read_text (any_text s) ≡ Ok s
written-read (One s) fits numbered = text-read s fits numbered ∙ ap (any_shadow One) (body-read s fits numbered)
written-read (Two s) fits numbered = text-read s fits numbered ∙ ap (any_shadow Two) (body-read s fits numbered)
written-read (Three s) fits numbered = text-read s fits numbered ∙ ap (any_shadow Three) (body-read s fits numbered)

-- so shadows with the same text are the same
pub texts-apart : (a b : AnyShadow) → IsAnyInRange a → IsAnyNumbered a → IsAnyInRange b → IsAnyNumbered b → any_text a ≡ any_text b → a ≡ b
texts-apart a b fits_a numbered_a fits_b numbered_b e =
    let same : read_text (any_text a) ≡ read_text (any_text b) = ap read_text e in
    let one = written-read a fits_a numbered_a in
    let other = written-read b fits_b numbered_b in
    cc
