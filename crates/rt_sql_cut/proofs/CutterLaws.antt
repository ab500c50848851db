-- A text is cut in one way, and in one at least.
use Rattle.std.proofs.Common.{◌≡◌, ◌≢◌, ℕ, List, [], ◌∷◌, ◌++◌, Option, Some, inl, inr, sym, refl, ap, ◌∙◌, subst, ⊎_elim, append_assoc, append-nil}
use Rattle.std.proofs.lemmas.List.Elements.{All-nil}
use Rattle.rt_sql_cut.specs.Pieces.{PieceText, IsGapAtom, IsGap, IsLastPiece, piece_of, Pieces, CuttingIsDetermined, EveryTextIsCut}
use Rattle.rt_sql_cut.specs.Cutter.{StopsAt}
use Rattle.rt_sql_cut.specs.CutterStep.{place_after, holding_after}
use Rattle.rt_sql_cut.proofs.CutterFront.{stops_after, no_end, end_or_not}
use Rattle.rt_sql_cut.proofs.CutterRuns.{first_of, first_gap, first_whole, first_last}
use Rattle.rt_sql_cut.specs.declared.piece.Ending.TheVariants.{Whole}
use Rattle.rt_sql_cut.specs.declared.cutter.Part.TheVariants.{Gap}
use Rattle.rt_sql_cut.specs.declared.cutter.Spot.TheVariants.{Between}
use Rattle.rt_sql_cut.specs.declared.cutter.Place.{Place}
use Rattle.rt_sql_cut.specs.declared.cutter.Place.TheVariants.{In, End}

pub cut_one_way : CuttingIsDetermined
cut_one_way x [] [] h k = refl
cut_one_way x [] (q ∷ qs) h (inl k) =
    let a = first_gap x h in
    let b = first_last x q k.0 in cc
cut_one_way x [] (q ∷ qs) h (inr k) =
    let a = first_gap x h in
    let b = ap first_of k.2 ∙ first_whole k.0 k.1 q k.3 in cc
cut_one_way x (p ∷ ps) [] (inl h) k =
    let a = first_gap x k in
    let b = first_last x p h.0 in cc
cut_one_way x (p ∷ ps) [] (inr h) k =
    let a = first_gap x k in
    let b = ap first_of h.2 ∙ first_whole h.0 h.1 p h.3 in cc
cut_one_way x (p ∷ ps) (q ∷ qs) (inl h) (inl k) =
    let a = first_last x p h.0 in
    let b = first_last x q k.0 in
    let c = h.1 in
    let d = k.1 in cc
cut_one_way x (p ∷ ps) (q ∷ qs) (inl h) (inr k) =
    let a = first_last x p h.0 in
    let b = ap first_of k.2 ∙ first_whole k.0 k.1 q k.3 in cc
cut_one_way x (p ∷ ps) (q ∷ qs) (inr h) (inl k) =
    let a = first_last x q k.0 in
    let b = ap first_of h.2 ∙ first_whole h.0 h.1 p h.3 in cc
cut_one_way x (p ∷ ps) (q ∷ qs) (inr h) (inr k) =
    let a = ap first_of h.2 ∙ first_whole h.0 h.1 p h.3 in
    let b = ap first_of k.2 ∙ first_whole k.0 k.1 q k.3 in
    let same_piece : p ≡ q = cc in
    let same_rest : h.1 ≡ k.1 = cc in
    let same_pieces = cut_one_way h.1 ps qs h.4 (subst (λ l. Pieces l qs) (sym same_rest) k.4) in cc

-- an empty gap
nothing_taken : StopsAt (In Gap Between) (Some []) []
nothing_taken = record {
  gap = [];
  tail = [];
  split = refl;
  closed = ([], refl, All-nil IsGapAtom);
  open_tail = refl;
  holds = refl;
}

-- a text that begins with bytes at whose end no piece has ended is cut in some way
cut_from : (bs before : List ℕ) (place : Place) (held : Option (List ℕ)) → place ≢ End → StopsAt place held before → (ps : List PieceText) × Pieces (before ++ bs) ps
cut_from [] before place held on h =
    let nothing_more = sym (append-nil before) in
    ⊎_elim
    (λ (gap : IsGap before). let cut : (ps : List PieceText) × Pieces (before ++ []) ps = ([], subst IsGap nothing_more gap) in cut)
    (λ (left : (p : PieceText) × IsLastPiece before p).
    let Last : List ℕ → Type 0 = λ l. IsLastPiece l left.0 in
    let cut : (ps : List PieceText) × Pieces (before ++ []) ps = (left.0 ∷ [], inl (subst Last nothing_more left.1, refl)) in cut)
    (no_end place held before on h)
cut_from (b ∷ bs) before place held on h =
    let more = append_assoc before (b ∷ []) bs in
    let Cut : List ℕ → Type 0 = λ l. (ps : List PieceText) × Pieces l ps in
    let to = place_after place b in
    let next : StopsAt to (holding_after to held b) (before ++ b ∷ []) = stops_after place held before b on h in
    ⊎_elim
    (λ (is : to ≡ End).
    let whole = subst (λ place. StopsAt place (holding_after place held b) (before ++ b ∷ [])) is next in
    let rest = cut_from bs [] (In Gap Between) (Some []) (λ e. cc) nothing_taken in
    let cut : Cut (before ++ b ∷ bs) = (piece_of (holding_after End held b) Whole ∷ rest.0, inr (before ++ b ∷ [], bs, sym more, whole, rest.1)) in cut)
    (λ (goes_on : to ≢ End). subst Cut more (cut_from bs (before ++ b ∷ []) to (holding_after to held b) goes_on next))
    (end_or_not to)

pub cut_somehow : EveryTextIsCut
cut_somehow x = cut_from x [] (In Gap Between) (Some []) (λ e. cc) nothing_taken
