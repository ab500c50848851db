-- Lemmas on the levels that are drawn, and on texts that grow.
use Rattle.std.proofs.Common.{◌≡◌, ◌∙◌, ap, sym, ℕ, ◌+◌, ◌<◌, List, [], ◌∷◌, ◌++◌, length, take, get_or, append_assoc, append-nil, Result, Ok, Err}
use Rattle.std.specs.Prelude.{Option, None, Some, OnOk, IfOk}
use Rattle.std.specs.List.{flat_map}
use Rattle.std.proofs.lemmas.List.{take_more}
use Rattle.std.proofs.lemmas.Grind.{flat_map-append}
use Rattle.rt_check_draw.specs.Levels.{down_from}

-- the levels from this one down, if there is one
abbrev pub levels_left : Option ℕ → List ℕ
levels_left None = []
levels_left (Some n) = down_from n

-- a text of the items so far, with one more
pub appended : {X : Type 0} (f : X → List ℕ) (start before after : List ℕ) (xs : List X) (i : ℕ) (d : X) → i < length xs
    → before ≡ start ++ flat_map f (take i xs) → after ≡ before ++ f (get_or xs i d) → after ≡ start ++ flat_map f (take (i + 1) xs)
appended f start before after xs i d within so_far now =
    let one : flat_map f (get_or xs i d ∷ []) ≡ f (get_or xs i d) = append-nil (f (get_or xs i d)) in
    let more : flat_map f (take (i + 1) xs) ≡ flat_map f (take i xs) ++ f (get_or xs i d) =
    ap (flat_map f) (take_more xs i d within) ∙ flat_map-append f (take i xs) (get_or xs i d ∷ []) ∙ ap (λ l. flat_map f (take i xs) ++ l) one in
    now ∙ ap (λ l. l ++ f (get_or xs i d)) so_far ∙ append_assoc start (flat_map f (take i xs)) (f (get_or xs i d)) ∙ ap (λ l. start ++ l) (sym more)

-- the same, if the item is known by another name
pub appended_as : {X : Type 0} (f : X → List ℕ) (start before after : List ℕ) (xs : List X) (i : ℕ) (d y : X) → i < length xs → get_or xs i d ≡ y
    → before ≡ start ++ flat_map f (take i xs) → after ≡ before ++ f y → after ≡ start ++ flat_map f (take (i + 1) xs)
appended_as f start before after xs i d y within same so_far now =
    appended f start before after xs i d within so_far (now ∙ ap (λ x. before ++ f x) (sym same))

-- texts added one after the other
two : (a b c x y : List ℕ) → b ≡ a ++ x → c ≡ b ++ y → c ≡ a ++ (x ++ y)
two a b c x y p q = q ∙ ap (λ l. l ++ y) p ∙ append_assoc a x y

pub two_added : {E : Type 0} (r : Result Unit E) (a b c x y : List ℕ) → b ≡ a ++ x → OnOk r (c ≡ b ++ y) → OnOk r (c ≡ a ++ (x ++ y))
two_added (Ok t) a b c x y p q = two a b c x y p q
two_added (Err e) a b c x y p q = q

pub three_added : {E : Type 0} (r : Result Unit E) (a b c d x y z : List ℕ) → b ≡ a ++ x → c ≡ b ++ y → OnOk r (d ≡ c ++ z) → OnOk r (d ≡ a ++ (x ++ (y ++ z)))
three_added (Ok t) a b c d x y z p q s = two a b d x (y ++ z) p (two b c d y z q s)
three_added (Err e) a b c d x y z p q s = s

pub four_added : {E : Type 0} (r : Result Unit E) (a b c d e x y z v : List ℕ) → b ≡ a ++ x → c ≡ b ++ y → d ≡ c ++ z → OnOk r (e ≡ d ++ v)
    → OnOk r (e ≡ a ++ (x ++ (y ++ (z ++ v))))
four_added (Ok t) a b c d e x y z v p q s u = two a b e x (y ++ (z ++ v)) p (two b c e y (z ++ v) q (two c d e z v s u))
four_added (Err f) a b c d e x y z v p q s u = u

-- the same, of texts that are joined from the left
pub three_joined : {E : Type 0} (r : Result Unit E) (a b c d x y z : List ℕ) → b ≡ a ++ x → c ≡ b ++ y → OnOk r (d ≡ c ++ z) → OnOk r (d ≡ a ++ ((x ++ y) ++ z))
three_joined (Ok t) a b c d x y z p q s = two a c d (x ++ y) z (two a b c x y p q) s
three_joined (Err e) a b c d x y z p q s = s

pub four_joined : {E : Type 0} (r : Result Unit E) (a b c d e x y z v : List ℕ) → b ≡ a ++ x → c ≡ b ++ y → d ≡ c ++ z → OnOk r (e ≡ d ++ v)
    → OnOk r (e ≡ a ++ (((x ++ y) ++ z) ++ v))
four_joined (Ok t) a b c d e x y z v p q s u = two a d e ((x ++ y) ++ z) v (two a c d (x ++ y) z (two a b c x y p q) s) u
four_joined (Err f) a b c d e x y z v p q s u = u

-- what is given is the one list, which is the other
pub gives_same : {T E : Type 0} (r : Result T E) (items : T → List ℕ) (x y : List ℕ) → x ≡ y → IfOk r (λ t. items t ≡ x) → IfOk r (λ t. items t ≡ y)
gives_same (Ok t) items x y e h = h ∙ e
gives_same (Err f) items x y e h = h

-- what is added is the other list
pub added_as : (a b x y : List ℕ) → b ≡ a ++ x → x ≡ y → b ≡ a ++ y
added_as a b x y p e = p ∙ ap (λ l. a ++ l) e
