-- The row at a place of the ids.
use Rattle.std.proofs.Common.{◌≡◌, ℕ, ◌<◌, ℤ, List, length, get_or, IsSome, is_some, refl, sym, ◌∙◌}
use Rattle.std.specs.List.{list_any}
use Rattle.std.specs.Ordering.{int_eq}
use Rattle.std.proofs.lemmas.Bool.Decides.{Decides-int_eq}
use Rattle.std.proofs.lemmas.Option.{slice_get-get_or}
use Rattle.std.proofs.lemmas.Map.Keys.{any_passes_from_place}
use Rattle.rt_check.specs.Shadow.{ShadowLists}
use Rattle.rt_tree.specs.Lists.{box_of}

pub place-held : {D : ℕ} (s : ShadowLists D) (ids : List ℤ) (place : ℕ) (d : ℤ) → place < length ids →
    ((id : ℤ) → list_any (int_eq id) ids ≡ is_some (box_of s id)) → IsSome (box_of s (get_or ids place d))
place-held s ids place d within told =
    let id = get_or ids place d in
    sym (told id) ∙ any_passes_from_place (int_eq id) ids place id (slice_get-get_or ids place d within) ((Decides-int_eq id id).1 refl)
