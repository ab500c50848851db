-- White space, quotes and comments (SQLite's documentation: SQL Comment Syntax; SQLite Keywords), as the
-- cutting of a script and the tokens of its pieces both see them. Bytes are their codes: 10 is a line
-- feed, 34 `"`, 39 `'`, 42 `*`, 45 `-` and 47 `/`.
use Rattle.std.specs.Prelude.{◌≡◌, ◌≢◌, ℕ, Bool, ◌||◌, ◌==◌, List, [], ◌∷◌, ◌++◌, ◌⊎◌, All}

-- a tab, a line feed, a form feed, a carriage return or a space
abbrev pub is_white : ℕ → Bool
is_white b = b == 9 || b == 10 || b == 12 || b == 13 || b == 32

-- `'` or `"`
abbrev pub is_quote : ℕ → Bool
is_quote b = b == 39 || b == 34

-- the byte isn't among these
abbrev pub Lacks : ℕ → List ℕ → Type 0
Lacks b text = All (λ c. c ≢ b) text

-- `*/` is among these bytes
abbrev pub HasClose : List ℕ → Type 0
HasClose text = (front rest : List ℕ) × (text ≡ front ++ 42 ∷ 47 ∷ rest)

-- ---- comments: `--` and a line, or `/*` and a block up to the first `*/` after it

-- a comment begins here
abbrev pub BeginsComment : List ℕ → Type 0
BeginsComment [] = ⊥
BeginsComment (a ∷ []) = ⊥
BeginsComment (a ∷ b ∷ rest) = ((a ≡ 45) × (b ≡ 45)) ⊎ ((a ≡ 47) × (b ≡ 42))

-- what stands after `--`
abbrev pub IsLineText : List ℕ → Type 0
IsLineText text = Lacks 10 text

-- the line, or the whole text, ends before these bytes
abbrev pub EndsLine : List ℕ → Type 0
EndsLine [] = Unit {0}
EndsLine (b ∷ rest) = b ≡ 10

-- what stands between `/*` and `*/`
abbrev pub IsBlockText : List ℕ → Type 0
IsBlockText text = ¬ HasClose (text ++ 42 ∷ [])

-- what stands after a `/*` for which no `*/` comes
abbrev pub IsOpenBlockText : List ℕ → Type 0
IsOpenBlockText text = ¬ HasClose text
