use Rattle.std.proofs.Common.{◌≡◌, ◌∷◌, rules, sym}
use Rattle.std.specs.List.{insert}
use Rattle.std.specs.Ordering.{int_eq}
use Rattle.std.proofs.lemmas.List.Sorted.{IsPermutation-insert, list_any-IsPermutation}
use Rattle.rt_table_store.proofs.largest.put.Goals as goal

pub returns-clause-ids : goal.returns-clause-ids
returns-clause-ids c =
    let ok = c.insert.ensures.succeeds c.requires.room in
    let is : c.insert.new.self.items ≡ insert c.args.ids.now.items c.place_of-place.result c.args.id.now = search rules in
    λ other. rw is (sym (list_any-IsPermutation (int_eq other) (c.args.id.now ∷ c.args.ids.now.items) _ (IsPermutation-insert c.args.ids.now.items c.place_of-place.result c.args.id.now)))
