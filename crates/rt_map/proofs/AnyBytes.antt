-- Any bytes of the right length are those of cells.
use Rattle.std.proofs.Common.{◌≡◌, ℕ, zero, suc, ◌+◌, ◌*◌, ◌<◌, ◌≤◌, ◌^◌, min, cond, Bool, true, false, None, ℤ, pos, List, [], ◌∷◌, ◌++◌, length, take, drop, get_or, arith, refl, ap, ◌∙◌, sym, subst, Fits, append_assoc, append-nil, inl, inr}
use Rattle.std.specs.Prelude.{All}
use Rattle.std.specs.Int.{w8, w32, w64, from_be_bytes, to_be_bytes, cast_signed}
use Rattle.std.specs.List.{flat_map}
use Rattle.std.proofs.lemmas.Bool.{cases_lt}
use Rattle.std.proofs.lemmas.Int.{of_z-to_z}
use Rattle.std.proofs.Math.Nat.{mul-le-mul_left}
use Rattle.std.proofs.lemmas.List.Concat.{flat_map-append}
use Rattle.std.proofs.lemmas.Nat.{be_bytes_4, be_bytes_8}
use Rattle.std.proofs.lemmas.List.{length-append, take-append-drop, length-take-le, length-drop, nil_from_length, get_or_past, get_or_default}
use Rattle.std.proofs.lemmas.List.Elements.{All-take, All-drop}
use Rattle.rt_check.specs.declared.node.NodeRow.{NodeRow}
use Rattle.rt_check.specs.declared.node.RawCell.{RawCell}
use Rattle.rt_check.specs.Conditions.{is_leaf, leaf_cells}
use Rattle.rt_tree_node.proofs.Links.{All-right}
use Rattle.rt_map.specs.TreeBytes.{long_bytes, short_bytes, cell_bytes, node_bytes, head_bytes}

abbrev pub AreBytes : List ℕ → Type 0
AreBytes bytes = All (λ b. b < 256) bytes

pub bytes-small : (bytes : List ℕ) → ((i : ℕ) → Fits w8 (get_or bytes i 0)) → AreBytes bytes
bytes-small bytes fits k d within = let here = fits k in let same = get_or_default bytes k d 0 within in omega (arith, here, same)

-- past the end there is a 0
at-byte : (bytes : List ℕ) → AreBytes bytes → (i : ℕ) → get_or bytes i 0 < 256
at-byte bytes small i = elim (cases_lt i (length bytes)) [
  | inl within ↦ small i 0 within
  | inr past ↦ omega (arith, get_or_past bytes i 0 past)
]

pub any-short : (bytes : List ℕ) → length bytes ≡ 4 → AreBytes bytes → (z : ℤ) × (short_bytes z ≡ bytes)
any-short bytes long small =
    let n = from_be_bytes w32 bytes in
    let at = at-byte bytes small in
    let less : n < 2 ^ 32 = omega (arith, at 0, at 1, at 2, at 3) in
    (cast_signed w32 n, ap (to_be_bytes w32) (of_z-to_z w32 n less) ∙ be_bytes_4 bytes n long at refl)

pub any-long : (bytes : List ℕ) → length bytes ≡ 8 → AreBytes bytes → (z : ℤ) × (long_bytes z ≡ bytes)
any-long bytes long small =
    let n = from_be_bytes w64 bytes in
    let at = at-byte bytes small in
    let less : n < 2 ^ 64 = omega (arith, at 0, at 1, at 2, at 3, at 4, at 5, at 6, at 7) in
    (cast_signed w64 n, ap (to_be_bytes w64) (of_z-to_z w64 n less) ∙ be_bytes_8 bytes n long at refl)

any-point : (n : ℕ) (bytes : List ℕ) → length bytes ≡ 4 * n → AreBytes bytes → (point : List ℤ) × (flat_map short_bytes point ≡ bytes)
any-point zero bytes long small = ([], sym (nil_from_length bytes (omega arith)))
any-point (suc n) bytes long small =
    let first = any-short (take 4 bytes) (length-take-le 4 bytes (omega arith)) (All-take (λ b. b < 256) 4 bytes small) in
    let rest = any-point n (drop 4 bytes) (omega (arith, length-drop 4 bytes)) (All-drop (λ b. b < 256) 4 bytes small) in
    (first.0 ∷ rest.0, ap (λ xs. xs ++ flat_map short_bytes rest.0) first.1 ∙ ap (λ xs. take 4 bytes ++ xs) rest.1 ∙ take-append-drop 4 bytes)

module _ (D : ℕ) where
  any-cell : (bytes : List ℕ) → length bytes ≡ 8 + 8 * D → AreBytes bytes → (c : RawCell D) × (cell_bytes c ≡ bytes)
  any-cell bytes long small =
      let after = drop 8 bytes in
      let low : AreBytes after = All-drop (λ b. b < 256) 8 bytes small in
      let count : length after ≡ 8 * D = omega (arith, length-drop 8 bytes) in
      let number = any-long (take 8 bytes) (length-take-le 8 bytes (omega arith)) (All-take (λ b. b < 256) 8 bytes small) in
      let lo = any-point D (take (4 * D) after) (length-take-le (4 * D) after (omega arith)) (All-take (λ b. b < 256) (4 * D) after low) in
      let hi = any-point D (drop (4 * D) after) (omega (arith, length-drop (4 * D) after)) (All-drop (λ b. b < 256) (4 * D) after low) in
      let los = flat_map short_bytes lo.0 in
      let his = flat_map short_bytes hi.0 in (
        record { number = number.0; lo = lo.0; hi = hi.0 },
        append_assoc (long_bytes number.0) los his ∙ ap (λ xs. xs ++ (los ++ his)) number.1 ∙ ap (λ xs. take 8 bytes ++ (xs ++ his)) lo.1
            ∙ ap (λ xs. take 8 bytes ++ (take (4 * D) after ++ xs)) hi.1 ∙ ap (λ xs. take 8 bytes ++ xs) (take-append-drop (4 * D) after) ∙ take-append-drop 8 bytes,
      )

  -- so many cells
  pub any-cells : (n : ℕ) (bytes : List ℕ) → length bytes ≡ n * (8 + 8 * D) → AreBytes bytes → (cells : List (RawCell D)) × (length cells ≡ n) × (flat_map cell_bytes cells ≡ bytes)
  any-cells zero bytes long small = ([], refl, sym (nil_from_length bytes (omega arith)))
  any-cells (suc n) bytes long small =
      let width = 8 + 8 * D in
      let step : suc n * (8 + 8 * D) ≡ (8 + 8 * D) + n * (8 + 8 * D) = omega arith in
      let first = any-cell (take width bytes) (length-take-le width bytes (omega (arith, step))) (All-take (λ b. b < 256) width bytes small) in
      let rest = any-cells n (drop width bytes) (omega (arith, step, length-drop width bytes)) (All-drop (λ b. b < 256) width bytes small) in (
        first.0 ∷ rest.0,
        ap suc rest.1,
        ap (λ xs. xs ++ flat_map cell_bytes rest.0) first.1 ∙ ap (λ xs. take width bytes ++ xs) rest.2 ∙ take-append-drop width bytes,
      )

-- the head, byte by byte
pub head-is : (axes capacity : ℕ) (bytes rest : List ℕ) → 6 ≤ length bytes → get_or bytes 0 0 ≡ 74 → get_or bytes 1 0 ≡ 68 → get_or bytes 2 0 ≡ 84 → get_or bytes 3 0 ≡ 1 →
    get_or bytes 4 0 ≡ axes → get_or bytes 5 0 ≡ capacity → rest ≡ drop 6 bytes → head_bytes axes capacity ++ rest ≡ bytes
head-is axes capacity [] rest long p q r s t u e = absurd (omega arith)
head-is axes capacity (a ∷ []) rest long p q r s t u e = absurd (omega arith)
head-is axes capacity (a ∷ b ∷ []) rest long p q r s t u e = absurd (omega arith)
head-is axes capacity (a ∷ b ∷ c ∷ []) rest long p q r s t u e = absurd (omega arith)
head-is axes capacity (a ∷ b ∷ c ∷ d ∷ []) rest long p q r s t u e = absurd (omega arith)
head-is axes capacity (a ∷ b ∷ c ∷ d ∷ x ∷ []) rest long p q r s t u e = absurd (omega arith)
head-is axes capacity (a ∷ b ∷ c ∷ d ∷ x ∷ y ∷ bytes) rest long p q r s t u e = cc

with-head : (left : List ℕ) → 2 ≤ length left → left ≡ get_or left 0 0 ∷ get_or left 1 0 ∷ drop 2 left
with-head [] long = absurd (omega arith)
with-head (x ∷ []) long = absurd (omega arith)
with-head (x ∷ y ∷ left) long = refl

module _ {D : ℕ} where
  -- a node more was read
  pub record NodeMore (bytes left run rest : List ℕ) (count : ℕ) (done : List (NodeRow D)) : Type 0 where
    pub node : NodeRow D
    pub level : node.level ≡ get_or left 0 0
    pub cells : length node.cells ≡ count
    pub long : length run ≡ count * (8 + 8 * D)
    pub whole : flat_map node_bytes (done ++ node ∷ []) ++ rest ≡ bytes

  pub node-more : (bytes left run rest : List ℕ) (count size : ℕ) (done : List (NodeRow D)) → AreBytes bytes → flat_map node_bytes done ++ left ≡ bytes → 2 ≤ length left → D ≤ 3 →
      count ≡ get_or left 1 0 → size ≡ min (count * (8 + 8 * D)) 18446744073709551615 → size ≤ length (drop 2 left) → run ≡ take size (drop 2 left) → rest ≡ drop size (drop 2 left) →
      NodeMore bytes left run rest count done
  node-more bytes left run rest count size done small same many few count_is size_is fits front back =
      let inside : AreBytes left = All-right (λ b. b < 256) (flat_map node_bytes done) left (subst AreBytes (sym same) small) in
      let low : get_or left 1 0 < 256 = inside 1 0 (omega arith) in
      let wide : count * (8 + 8 * D) ≤ count * 32 = mul-le-mul_left count (let w : 8 + 8 * D ≤ 32 = omega arith in w) in
      let whole : size ≡ count * (8 + 8 * D) = omega (arith, size_is, wide, count_is, low) in
      let after = drop 2 left in
      let long : length run ≡ count * (8 + 8 * D) = ap length front ∙ length-take-le size after fits ∙ whole in
      let tail : AreBytes after = All-drop (λ b. b < 256) 2 left inside in
      let cells = any-cells D count run long (subst AreBytes (sym front) (All-take (λ b. b < 256) size after tail)) in
      let node : NodeRow D = record { number = pos 0; level = get_or left 0 0; parent = None; cells = cells.0 } in
      let behind : run ++ rest ≡ after = ap (λ xs. xs ++ rest) front ∙ ap (λ xs. take size after ++ xs) back ∙ take-append-drop size after in
      let with : ℕ → List ℕ → List ℕ = λ n xs. get_or left 0 0 ∷ n ∷ xs in
      let own : node_bytes node ++ rest ≡ left =
      ap (λ n. with n (flat_map cell_bytes cells.0 ++ rest)) (cells.1 ∙ count_is) ∙ ap (λ xs. with (get_or left 1 0) (xs ++ rest)) cells.2
      ∙ ap (with (get_or left 1 0)) behind ∙ sym (with-head left many) in
      let before = flat_map node_bytes done in
      record {
        node = node;
        level = refl;
        cells = cells.1;
        long = long;
        whole =
            ap (λ xs. xs ++ rest) (flat_map-append node_bytes done (node ∷ [])) ∙ append_assoc before (node_bytes node ++ []) rest
            ∙ ap (λ xs. before ++ (xs ++ rest)) (append-nil (node_bytes node)) ∙ ap (λ xs. before ++ xs) own ∙ same;
      }

  leaf-cells-more : (done : List (NodeRow D)) (node : NodeRow D) (b : Bool) → is_leaf node ≡ b → leaf_cells (done ++ node ∷ []) ≡ leaf_cells done ++ cond b node.cells []
  leaf-cells-more done node b leaf =
      let of : NodeRow D → List (RawCell D) = λ n. cond (is_leaf n) n.cells [] in
      flat_map-append of done (node ∷ []) ∙ ap (λ x. leaf_cells done ++ (cond x node.cells [] ++ [])) leaf ∙ ap (λ xs. leaf_cells done ++ xs) (append-nil (cond b node.cells []))

  pub leaf-more : (done : List (NodeRow D)) (node : NodeRow D) → is_leaf node ≡ true → length (leaf_cells (done ++ node ∷ [])) ≡ length (leaf_cells done) + length node.cells
  leaf-more done node leaf = ap length (leaf-cells-more done node true leaf) ∙ length-append (leaf_cells done) node.cells

  pub inner-more : (done : List (NodeRow D)) (node : NodeRow D) → is_leaf node ≡ false → length (leaf_cells (done ++ node ∷ [])) ≡ length (leaf_cells done)
  inner-more done node leaf = ap length (leaf-cells-more done node false leaf ∙ append-nil (leaf_cells done))
