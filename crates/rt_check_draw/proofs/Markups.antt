-- Lemmas on well-formed markup.
use Rattle.std.proofs.Common.{◌≡◌, ◌∙◌, ap, sym, subst, refl, ℕ, zero, suc, ◌/◌, ◌%◌, ◌<◌, Bool, true, false, cond, List, [], ◌∷◌, ◌++◌, codes, decimal, map, append_assoc, append-nil, ℤ, pos, negsuc, ◌==◌, arith}
use Rattle.std.specs.Prelude.{IsTrue, ◌&&◌}
use Rattle.std.specs.Fmt.{signed_decimal, digits, digits_onto, digit_glyph}
use Rattle.std.specs.List.{flat_map, list_all, AllByRecursion}
use Rattle.std.proofs.Math.Nat.{mod-lt}
use Rattle.std.proofs.lemmas.Bool.{and_from, and_parts}
use Rattle.std.proofs.lemmas.Bool.Decides.{nat_tests}
use Rattle.rt_check_draw.specs.Markup.{is_plain, Attribute, attribute_text, are_attributes, is_name, IsTag, IsElement, IsContent, empty, whole, nothing, character, element}
use Rattle.rt_check_draw.specs.Text.{together}

glyph-plain : (d : ℕ) → d < 10 → IsTrue (is_plain (digit_glyph false d))
glyph-plain d h = grind (arith, nat_tests)

onto-plain : (k n : ℕ) (after : List ℕ) → IsTrue (list_all is_plain after) → IsTrue (list_all is_plain (digits_onto k 10 false n after))
onto-plain zero n after h = h
onto-plain (suc k) n after h =
    let more : IsTrue (list_all is_plain (digit_glyph false (n % 10) ∷ after)) = and_from _ _ (glyph-plain (n % 10) (mod-lt n (omega arith))) h in
    either (n / 10 == 0) _ _ more (onto-plain k (n / 10) _ more)
  where
    either : (b : Bool) (xs ys : List ℕ) → IsTrue (list_all is_plain xs) → IsTrue (list_all is_plain ys) → IsTrue (list_all is_plain (cond b xs ys))
    either true xs ys p q = p
    either false xs ys p q = q

pub decimal-plain : (n : ℕ) → IsTrue (list_all is_plain (decimal n))
unfolding digits
decimal-plain n = onto-plain 64 n [] refl

pub signed-plain : (z : ℤ) → IsTrue (list_all is_plain (signed_decimal z))
signed-plain (pos n) = decimal-plain n
signed-plain (negsuc n) = decimal-plain (suc n)

pub content-append : (a b : List ℕ) → IsContent a → IsContent b → IsContent (a ++ b)
content-append _ b nothing q = q
content-append _ b (character c others p r) q = character c (others ++ b) p (content-append others b r q)
content-append _ b (element name text others e r) q =
    subst IsContent (sym (append_assoc text others b)) (element name text (others ++ b) e (content-append others b r q))

pub element-content : (name text : List ℕ) → IsElement name text → IsContent text
element-content name text e = subst IsContent (append-nil text) (element name text [] e nothing)

pub plain-content : (text : List ℕ) → IsTrue (list_all is_plain text) → IsContent text
plain-content [] h = nothing
plain-content (c ∷ others) h = character c others (and_parts _ _ h).0 (plain-content others (and_parts _ _ h).1)

pub flat-content : {X : Type 0} (f : X → List ℕ) → ((x : X) → IsContent (f x)) → (xs : List X) → IsContent (flat_map f xs)
flat-content f each [] = nothing
flat-content f each (x ∷ xs) = content-append (f x) (flat_map f xs) (each x) (flat-content f each xs)

-- parts one after the other, and then the rest
abbrev pub together_then : List (List ℕ) → List ℕ → List ℕ
together_then [] rest = rest
together_then (part ∷ parts) rest = part ++ together_then parts rest

pub then-together : (parts : List (List ℕ)) (rest : List ℕ) → together parts ++ rest ≡ together_then parts rest
then-together [] rest = refl
then-together (part ∷ parts) rest = append_assoc part (together parts) rest ∙ ap (λ l. part ++ l) (then-together parts rest)

-- an attribute whose value is given in parts
abbrev pub is : List ℕ × List (List ℕ) → Attribute
is a = record { name = a.0; value = together a.1 }

-- attributes one after the other, and then the rest
abbrev pub attributes_then : List (List ℕ × List (List ℕ)) → List ℕ → List ℕ
attributes_then [] rest = rest
attributes_then (a ∷ others) rest = codes " " ++ (a.0 ++ (codes "=\"" ++ together_then a.1 (codes "\"" ++ attributes_then others rest)))

one-attribute : (name value mark others : List ℕ) → (32 ∷ name ++ (61 ∷ 34 ∷ []) ++ value ++ mark) ++ others ≡ 32 ∷ (name ++ (61 ∷ 34 ∷ (value ++ (mark ++ others))))
one-attribute name value mark others = simp append_assoc

pub then-attributes : (attributes : List (List ℕ × List (List ℕ))) (rest : List ℕ) → flat_map attribute_text (map is attributes) ++ rest ≡ attributes_then attributes rest
then-attributes [] rest = refl
then-attributes (a ∷ others) rest =
    append_assoc (attribute_text (is a)) (flat_map attribute_text (map is others)) rest
    ∙ ap (λ l. attribute_text (is a) ++ l) (then-attributes others rest)
    ∙ one-attribute a.0 (together a.1) (codes "\"") (attributes_then others rest)
    ∙ ap (λ l. 32 ∷ (a.0 ++ (61 ∷ 34 ∷ l))) (then-together a.1 (codes "\"" ++ attributes_then others rest))

-- an element with that name, these attributes and this content, and then the rest
abbrev pub element_then : List ℕ → List (List ℕ × List (List ℕ)) → List (List ℕ) → List ℕ → List ℕ
element_then name attributes inside rest =
    codes "<" ++ (name ++ attributes_then attributes (codes ">" ++ together_then inside (codes "</" ++ (name ++ (codes ">" ++ rest)))))

regrouped : (n a e t c r : List ℕ) → (60 ∷ (n ++ a) ++ e ++ t ++ c ++ n ++ e) ++ r ≡ 60 ∷ (n ++ (a ++ (e ++ (t ++ (c ++ (n ++ (e ++ r)))))))
regrouped n a e t c r = simp append_assoc

regrouped_empty : (n a e r : List ℕ) → ((n ++ a) ++ e) ++ r ≡ n ++ (a ++ (e ++ r))
regrouped_empty n a e r = simp append_assoc

-- content whose parts are content
pub parts-content : (parts : List (List ℕ)) → AllByRecursion IsContent parts → IsContent (together parts)
parts-content [] h = nothing
parts-content (part ∷ parts) h = content-append part (together parts) h.0 (parts-content parts h.1)

module _ (name : List ℕ) (attributes : List (List ℕ × List (List ℕ))) (named : IsTrue (is_name name)) (sound : IsTrue (are_attributes (map is attributes))) where
  tag : List ℕ
  tag = name ++ flat_map attribute_text (map is attributes)

  is_tag : IsTag name tag
  unfolding tag
  is_tag = record { attributes = map is attributes; named = named; sound = sound; spelled = refl }

  whole_text : (inside : List (List ℕ)) (rest : List ℕ)
      → (codes "<" ++ tag ++ codes ">" ++ together inside ++ codes "</" ++ name ++ codes ">") ++ rest ≡ element_then name attributes inside rest
  unfolding tag
  whole_text inside rest =
      regrouped name (flat_map attribute_text (map is attributes)) (codes ">") (together inside) (codes "</") rest
      ∙ ap (λ l. 60 ∷ (name ++ l)) (then-attributes attributes (codes ">" ++ (together inside ++ (codes "</" ++ (name ++ (codes ">" ++ rest))))))
      ∙ ap (λ l. 60 ∷ (name ++ attributes_then attributes (62 ∷ l))) (then-together inside (codes "</" ++ (name ++ (codes ">" ++ rest))))

  pub whole-element : (inside : List (List ℕ)) → IsContent (together inside) → IsElement name (element_then name attributes inside [])
  whole-element inside within = subst (IsElement name) (sym (append-nil _) ∙ whole_text inside []) (whole name tag (together inside) is_tag within)

  pub whole-content : (inside : List (List ℕ)) (rest : List ℕ) → IsContent (together inside) → IsContent rest → IsContent (element_then name attributes inside rest)
  whole-content inside rest within after = subst IsContent (whole_text inside rest) (element name _ rest (whole name tag (together inside) is_tag within) after)

  -- an element with no content
  pub empty-content : (rest : List ℕ) → IsContent rest → IsContent (codes "<" ++ (name ++ attributes_then attributes (codes "/>" ++ rest)))
  unfolding tag
  empty-content rest after =
      let text : (codes "<" ++ tag ++ codes "/>") ++ rest ≡ codes "<" ++ (name ++ attributes_then attributes (codes "/>" ++ rest)) =
      ap (λ l. 60 ∷ l) (regrouped_empty name (flat_map attribute_text (map is attributes)) (codes "/>") rest) ∙ ap (λ l. 60 ∷ (name ++ l)) (then-attributes attributes (codes "/>" ++ rest)) in
      subst IsContent text (element name _ rest (empty name tag is_tag) after)

  pub then-rest : (inside : List (List ℕ)) (rest : List ℕ) → element_then name attributes inside [] ++ rest ≡ element_then name attributes inside rest
  then-rest inside rest =
      let alone : codes "<" ++ tag ++ codes ">" ++ together inside ++ codes "</" ++ name ++ codes ">" ≡ element_then name attributes inside [] = sym (append-nil _) ∙ whole_text inside [] in
      ap (λ l. l ++ rest) (sym alone) ∙ whole_text inside rest
