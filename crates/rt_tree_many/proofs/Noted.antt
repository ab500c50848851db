-- Answers noted beside the questions.
use Rattle.std.proofs.Common.{◌≡◌, ℕ, zero, suc, ◌+◌, ◌-◌, ◌<◌, ◌≤◌, ℤ, List, [], ◌∷◌, ◌++◌, length, get_or, take, drop, set, replicate, Option, Some, None, arith, refl, ap, sym, ◌∙◌, subst}
use Rattle.std.specs.Prelude.{slice_get, slice_range}
use Rattle.std.specs.List.{AllZip}
use Rattle.std.proofs.lemmas.Option.{none-some, same_Some, slice_get-get_or, slice_get_within, get_or_from_slice_get}
use Rattle.std.proofs.lemmas.List.{take_more, length-append, length-set, length-replicate, take-append-le, drop-take}
use Rattle.rt_tree_many.proofs.Lists.{all-zip-push}
use Rattle.rt_tree_many.specs.Answers.{ids_at, IsLonger, IsIfNoted, AreNoted, AnswersAt, SpanAnswers}
use Rattle.rt_tree_many.specs.declared.spans.Span.{Span}

at-each : {X : Type 0} (qs : List X) (i : ℕ) → i < length qs → (q : X) × (slice_get qs i ≡ Some q)
at-each [] i lt = absurd (omega arith)
at-each (x ∷ qs) zero lt = (x, refl)
at-each (x ∷ qs) (suc i) lt = at-each qs i (omega arith)

pub take-at : {X : Type 0} (qs : List X) (i : ℕ) (q : X) → slice_get qs i ≡ Some q → take (i + 1) qs ≡ take i qs ++ q ∷ []
take-at {X} qs i q e = take_more qs i q (slice_get_within qs i q e) ∙ ap (λ (y : X). take i qs ++ y ∷ []) (get_or_from_slice_get qs i q q e)

module _ {X A : Type 0} where
  each-none : (Answers : X → A → Type 0) (qs : List X) → AllZip (IsIfNoted Answers) qs (replicate (length qs) None)
  each-none Answers [] = tt
  each-none Answers (q ∷ qs) = (tt, each-none Answers qs)

  each-set : (Answers : X → A → Type 0) (qs : List X) (notes : List (Option A)) (i : ℕ) (q : X) (a : A) → AllZip (IsIfNoted Answers) qs notes →
      slice_get qs i ≡ Some q → Answers q a → AllZip (IsIfNoted Answers) qs (set notes i (Some a))
  each-set Answers [] notes i q a all e h = absurd (none-some q e)
  each-set Answers (x ∷ qs) [] i q a all e h = absurd all
  each-set Answers (x ∷ qs) (n ∷ notes) zero q a all e h = (subst (λ (y : X). Answers y a) (sym (same_Some x q e)) h, all.1)
  each-set Answers (x ∷ qs) (n ∷ notes) (suc i) q a all e h = (all.0, each-set Answers qs notes i q a all.1 e h)

  each-at : (Answers : X → A → Type 0) (qs : List X) (notes : List (Option A)) (i : ℕ) (q : X) (a : A) → AllZip (IsIfNoted Answers) qs notes →
      slice_get qs i ≡ Some q → slice_get notes i ≡ Some (Some a) → Answers q a
  each-at Answers [] notes i q a all e n = absurd (none-some q e)
  each-at Answers (x ∷ qs) [] i q a all e n = absurd all
  each-at Answers (x ∷ qs) (m ∷ notes) zero q a all e n =
      subst (λ (y : X). Answers y a) (same_Some x q e) (subst (IsIfNoted Answers x) (same_Some m (Some a) n) all.0)
  each-at Answers (x ∷ qs) (m ∷ notes) (suc i) q a all e n = each-at Answers qs notes i q a all.1 e n

  each-map : (P Q : X → A → Type 0) (qs : List X) (notes : List (Option A)) → ((q : X) (a : A) → P q a → Q q a) → AllZip (IsIfNoted P) qs notes →
      AllZip (IsIfNoted Q) qs notes
  each-map P Q [] [] f all = tt
  each-map P Q [] (n ∷ notes) f all = absurd all
  each-map P Q (q ∷ qs) [] f all = absurd all
  each-map P Q (q ∷ qs) (None ∷ notes) f all = (tt, each-map P Q qs notes f all.1)
  each-map P Q (q ∷ qs) (Some a ∷ notes) f all = (f q a all.0, each-map P Q qs notes f all.1)

  pub noted-none : (Answers : X → A → Type 0) (qs : List X) (notes : List (Option A)) → notes ≡ replicate (length qs) None → AreNoted Answers qs notes
  noted-none Answers qs notes none = record {
    many = ap length none ∙ length-replicate (length qs) None;
    each = subst (AllZip (IsIfNoted Answers) qs) (sym none) (each-none Answers qs);
  }

  -- the answer that is noted at a place
  pub noted-at : (Answers : X → A → Type 0) (qs : List X) (notes : List (Option A)) (i : ℕ) (d : Option A) (a : A) → AreNoted Answers qs notes → i < length qs →
      get_or notes i d ≡ Some a → AnswersAt Answers qs i a
  noted-at Answers qs notes i d a noted lt e =
      let at = at-each qs i lt in
      let within : i < length notes = omega (arith, lt, noted.many) in
      record {
        question = at.0;
        here = at.1;
        answers = each-at Answers qs notes i at.0 a noted.each at.1 (slice_get-get_or notes i d within ∙ ap Some e);
      }

  pub answers-at : (Answers : X → A → Type 0) (qs : List X) (i : ℕ) (q : X) (a : A) → i < length qs → q ≡ get_or qs i q → Answers q a → AnswersAt Answers qs i a
  answers-at Answers qs i q a lt is h = record { question = q; here = slice_get-get_or qs i q lt ∙ ap Some (sym is); answers = h }

  -- one answer more
  pub zip-next : (Answers : X → A → Type 0) (qs : List X) (ys : List A) (i : ℕ) (a : A) → AllZip Answers (take i qs) ys → AnswersAt Answers qs i a →
      AllZip Answers (take (i + 1) qs) (ys ++ a ∷ [])
  zip-next Answers qs ys i a all at =
      subst (λ (l : List X). AllZip Answers l (ys ++ a ∷ [])) (sym (take-at qs i at.question at.here))
      (all-zip-push Answers (take i qs) ys at.question a all at.answers)

  -- one note more
  pub noted-more : (Answers : X → A → Type 0) (qs : List X) (notes : List (Option A)) (i : ℕ) (q : X) (a : A) → AreNoted Answers qs notes → i < length qs →
      q ≡ get_or qs i q → Answers q a → AreNoted Answers qs (set notes i (Some a))
  noted-more Answers qs notes i q a noted lt is h = record {
    many = length-set notes i (Some a) ∙ noted.many;
    each = each-set Answers qs notes i q a noted.each (slice_get-get_or qs i q lt ∙ ap Some (sym is)) h;
  }

module _ {X : Type 0} (Answers : X → List ℤ → Type 0) where
  span-longer : (old new : List ℤ) → IsLonger old new → (q : X) (span : Span) → SpanAnswers Answers old q span → SpanAnswers Answers new q span
  span-longer old new longer q span h = record {
    ordered = h.ordered;
    within = omega (arith, h.within, ap length longer.is, length-append old longer.more);
    answers =
        let same : take span.end old ≡ take span.end new = sym (take-append-le span.end old longer.more h.within) ∙ ap (take span.end) (sym longer.is) in
        subst (Answers q) (ap (drop span.start) same) h.answers;
  }

  -- what is noted holds of a longer list of ids too
  pub noted-longer : (old new : List ℤ) (qs : List X) (notes : List (Option Span)) → IsLonger old new → AreNoted (SpanAnswers Answers old) qs notes →
      AreNoted (SpanAnswers Answers new) qs notes
  noted-longer old new qs notes longer noted = record {
    many = noted.many;
    each = each-map (SpanAnswers Answers old) (SpanAnswers Answers new) qs notes (span-longer old new longer) noted.each;
  }

pub ids-range : (ids : List ℤ) (span : Span) → span.start ≤ span.end → ids_at ids span ≡ slice_range ids span.start span.end
ids-range ids span le =
    let whole : span.start + (span.end - span.start) ≡ span.end = omega (arith, le) in
    ap (λ (n : ℕ). drop span.start (take n ids)) (sym whole) ∙ drop-take span.start (span.end - span.start) ids
