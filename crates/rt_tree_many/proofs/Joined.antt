-- Parts joined end to end.
use Rattle.std.proofs.Common.{◌≡◌, ℕ, ◌+◌, ℤ, List, [], ◌∷◌, ◌++◌, length, take, slice_range, arith, append-nil, ap, sym, ◌∙◌, subst}
use Rattle.std.specs.List.{flat_map}
use Rattle.std.proofs.lemmas.List.{length-append}
use Rattle.std.proofs.lemmas.List.Concat.{flat_map-append}
use Rattle.rt_box.specs.declared.interval.Interval.{Interval}
use Rattle.rt_check.specs.Shadow.{ShadowLists}
use Rattle.rt_map.specs.Packing.{ids}
use Rattle.rt_tree.specs.Search.{FindsInAfter}
use Rattle.rt_tree_walk.specs.declared.searching.Row.{Row}
use Rattle.rt_tree_many.specs.declared.parts.FoundMany.{FoundMany}
use Rattle.rt_tree_many.specs.Parts.{starts_from, HasParts, AddsPart, FindsIds, FindsMany}
use Rattle.rt_tree_many.specs.Answers.{AnswersAt, SpanAnswers}
use Rattle.rt_tree_many.specs.declared.spans.Span.{Span}
use Rattle.rt_tree_many.proofs.Lists.{all-zip-push}
use Rattle.rt_tree_many.proofs.Noted.{take-at, ids-range}

whole : List (List ℤ) → List ℤ
whole parts = flat_map (λ (part : List ℤ). part) parts

starts-push : (place : ℕ) (parts : List (List ℤ)) (part : List ℤ) → starts_from place (parts ++ part ∷ []) ≡ starts_from place parts ++ (place + length (whole parts)) ∷ []
unfolding whole
starts-push place [] part = let same : place ≡ place + 0 = omega arith in ap (λ (n : ℕ). n ∷ []) same
starts-push place (p ∷ parts) part =
    let far : place + length p + length (whole parts) ≡ place + length (p ++ whole parts) = omega (arith, length-append p (whole parts)) in
    ap (λ (ns : List ℕ). place ∷ ns) (starts-push (place + length p) parts part ∙ ap (λ (n : ℕ). starts_from (place + length p) parts ++ n ∷ []) far)

whole-push : (parts : List (List ℤ)) (part : List ℤ) → whole (parts ++ part ∷ []) ≡ whole parts ++ part
unfolding whole
whole-push parts part =
    flat_map-append (λ (p : List ℤ). p) parts (part ∷ []) ∙ ap (λ (zs : List ℤ). flat_map (λ (p : List ℤ). p) parts ++ zs) (append-nil part)

pub parts-more : (parts : List (List ℤ)) (part : List ℤ) (old new : FoundMany) → HasParts parts old.ids.items old.starts.items → AddsPart part old new →
    HasParts (parts ++ part ∷ []) new.ids.items new.starts.items
unfolding whole
parts-more parts part old new has adds = record {
  joined = adds.ids_are ∙ ap (λ (zs : List ℤ). zs ++ part) has.joined ∙ sym (whole-push parts part);
  begin =
      let far : length old.ids.items ≡ 0 + length (whole parts) = ap length has.joined ∙ omega arith in
      adds.starts_are ∙ ap (λ (ns : List ℕ). ns ++ length old.ids.items ∷ []) has.begin ∙ ap (λ (n : ℕ). starts_from 0 parts ++ n ∷ []) far
      ∙ sym (starts-push 0 parts part);
}

module _ {D : ℕ} (s : ShadowLists D) where
  -- what a search appends to a list without rows
  pub found-ids : (window : List Interval) (old new : List (Row D)) (visited : ℕ) → old ≡ [] → FindsInAfter s window old new visited → FindsIds s window (ids new)
  found-ids window old new visited none found = record {
    rows = found.more;
    admitted = found.finds.admitted;
    each = found.finds.each;
    ids_are = ap ids (found.is ∙ ap (λ (rows : List (Row D)). rows ++ found.more) none);
  }

  pub finds-none : (all : List ℤ) (starts : List ℕ) → HasParts [] all starts → FindsMany s [] all starts
  finds-none all starts has = record { parts = []; has = has; finds = tt }

  -- one window more
  pub finds-more : (windows : List (List Interval)) (window : List Interval) (part : List ℤ) (old new : FoundMany) →
      FindsMany s windows old.ids.items old.starts.items → FindsIds s window part → AddsPart part old new →
      FindsMany s (windows ++ window ∷ []) new.ids.items new.starts.items
  finds-more windows window part old new so finds adds = record {
    parts = so.parts ++ part ∷ [];
    has = parts-more so.parts part old new so.has adds;
    finds = all-zip-push (FindsIds s) windows so.parts window part so.finds finds;
  }

  -- what the window at a place finds
  pub finds-at : (windows : List (List Interval)) (i : ℕ) (found : List ℤ) (span : Span) (old new : FoundMany) →
      FindsMany s (take i windows) old.ids.items old.starts.items → AnswersAt (SpanAnswers (FindsIds s) found) windows i span →
      AddsPart (slice_range found span.start span.end) old new → FindsMany s (take (i + 1) windows) new.ids.items new.starts.items
  finds-at windows i found span old new so at adds =
      let part = slice_range found span.start span.end in
      let finds : FindsIds s at.question part = subst (FindsIds s at.question) (ids-range found span at.answers.ordered) at.answers.answers in
      subst (λ (ws : List (List Interval)). FindsMany s ws new.ids.items new.starts.items) (sym (take-at windows i at.question at.here))
      (finds-more (take i windows) at.question part old new so finds adds)
