-- Well-formed markup (W3C, Extensible Markup Language (XML) 1.0, fifth edition; productions in brackets): a subset, in ASCII, with
-- no declaration, comment or reference.
use Rattle.std.specs.Prelude.{◌≡◌, ℕ, Bool, true, false, not, ◌&&◌, ◌||◌, List, [], ◌∷◌, ◌++◌, codes, nat_le, ◌==◌, IsTrue}
use Rattle.std.specs.List.{flat_map, list_all}
use Rattle.std.specs.Str.{bytes_eq}

-- a character that stands for itself: a line feed, or one from the space to the tilde, but none of " & < > [2 Char, 10 AttValue,
-- 14 CharData]
abbrev pub is_plain : ℕ → Bool
is_plain c = (c == 10) || (nat_le 32 c && nat_le c 126 && not (c == 34) && not (c == 38) && not (c == 60) && not (c == 62))

abbrev pub is_letter : ℕ → Bool
is_letter c = (nat_le 65 c && nat_le c 90) || (nat_le 97 c && nat_le c 122)

-- a letter, and then letters and hyphens [5 Name]
abbrev pub is_name : List ℕ → Bool
is_name [] = false
is_name (c ∷ others) = is_letter c && list_all (λ d. is_letter d || (d == 45)) others

pub record Attribute : Type 0 where
  pub name : List ℕ
  pub value : List ℕ

-- as ` width="1000"` [41 Attribute]
abbrev pub attribute_text : Attribute → List ℕ
attribute_text a = codes " " ++ a.name ++ codes "=\"" ++ a.value ++ codes "\""

-- each has a name and a plain value, and no two have one name
abbrev pub are_attributes : List Attribute → Bool
are_attributes [] = true
are_attributes (a ∷ others) = is_name a.name && list_all is_plain a.value && list_all (λ b. not (bytes_eq a.name b.name)) others && are_attributes others

-- the inner part of a tag: a name, and attributes [40 STag, 44 EmptyElemTag]
pub record IsTag (name text : List ℕ) : Type 0 where
  pub attributes : List Attribute
  pub named : IsTrue (is_name name)
  pub sound : IsTrue (are_attributes attributes)
  pub spelled : text ≡ name ++ flat_map attribute_text attributes

mutual
  -- an element of that name: an empty tag, or a start tag, content, and the end tag of the same name [39 element, 42 ETag]
  pub data IsElement : List ℕ → List ℕ → Type 0 where
    empty : (name tag : List ℕ) → IsTag name tag → IsElement name (codes "<" ++ tag ++ codes "/>")
    whole : (name tag content : List ℕ) → IsTag name tag → IsContent content
        → IsElement name (codes "<" ++ tag ++ codes ">" ++ content ++ codes "</" ++ name ++ codes ">")

  -- elements and plain characters, in any order [43 content]
  pub data IsContent : List ℕ → Type 0 where
    nothing : IsContent []
    character : (c : ℕ) (others : List ℕ) → IsTrue (is_plain c) → IsContent others → IsContent (c ∷ others)
    element : (name text others : List ℕ) → IsElement name text → IsContent others → IsContent (text ++ others)

-- one element of that name, and the end of its line [1 document]
pub record IsDocument (name text : List ℕ) : Type 0 where
  pub root : List ℕ
  pub is_element : IsElement name root
  pub line : text ≡ root ++ codes "\n"
