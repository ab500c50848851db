use Rattle.std.proofs.Common.{rules, ◌≡◌, ℕ, true, ◌-◌, ◌<◌, ◌++◌, [], ◌∷◌, List, length, map, arith, ap, sym, ◌∙◌, Vec, Global, vec_len, vec_capacity, append_assoc, append-nil}
use Rattle.std.proofs.lemmas.List.{map-append}
use Rattle.std.proofs.lemmas.List.Elements.{All-nil, All-push}
use Rattle.std.specs.Int.Bits.{bit_and}
use lib.Bits.{and_le_r}
use lib.Count.{count_trailing_zeros}
use Rattle.rt_tree_node.specs.declared.cell.Cell.{Cell}
use Rattle.rt_tree_node.specs.Places.{key_of}
use Rattle.rt_tree_walk.specs.declared.searching.Reached.{Reached}
use Rattle.rt_tree_walk.specs.Visits.{picked, keys_of, NamesInside}
use Rattle.rt_tree_walk.proofs.Fitting.{on-err}
use Rattle.rt_tree_walk.proofs.Picked.{picked-first, picked-none, length-picked}
use Rattle.rt_tree_walk.proofs.searching.push_children.Goals as goal

pub loop-rest-init : goal.loop-rest-init
loop-rest-init g c =
    let cells = c.args.node.now.cells in
    let same : c.replace-list.result.items ≡ c.args.reached.now.items = ap (λ (list : Vec Reached Global). list.items) c.replace-list.ensures.value ∙ c.in_ok-reserve.ensures.items in
    record {
      below = c.requires.within;
      keys = ap (λ (ds : List Reached). keys_of ds ++ map key_of (picked cells c.args.bits)) same;
      marks = record {
        more = [];
        is = same ∙ sym (append-nil c.args.reached.now.items);
        inside = All-nil (λ d. d.is_inside ≡ true → NamesInside c.args.query.now.window cells d.key);
      };
      room = omega (arith, length-picked cells c.args.bits c.requires.within, ap vec_len c.replace-list.ensures.value, ap vec_capacity c.replace-list.ensures.value, c.in_ok-reserve.ensures.len, c.in_ok-reserve.ensures.ok);
      capacity = omega (arith, ap vec_capacity c.replace-list.ensures.value, c.in_ok-reserve.ensures.capacity);
    }

pub cell-cell-requires : goal.cell-cell-requires
cell-cell-requires g c =
    let some : 0 < c.loop-rest.rest = omega (arith, c.loop-rest-test.true) in
    let within : count_trailing_zeros 64 c.loop-rest.rest < length c.args.node.now.cells =
    (picked-first 64 c.args.node.now.cells c.loop-rest.rest (omega (arith, c.facts.ensures)) some c.loop-rest.invariant.below).within in
    search rules

pub push_reserved-requires : goal.push_reserved-requires
push_reserved-requires g c =
    let cells = c.args.node.now.cells in
    let first = picked-first 64 cells c.loop-rest.rest (omega (arith, c.facts.ensures)) (omega (arith, c.loop-rest-test.true)) c.loop-rest.invariant.below in
    omega (arith, ap length (first.is c.cell-cell.result), c.loop-rest.invariant.room)

pub loop-rest-preserved : goal.loop-rest-preserved
loop-rest-preserved g c =
    let cells = c.args.node.now.cells in
    let window = c.args.query.now.window in
    let rest : ℕ = c.loop-rest.rest in
    let next : ℕ = bit_and rest (rest - 1) in
    let at : ℕ = count_trailing_zeros 64 rest in
    let old = c.args.reached.now.items in
    let before = c.loop-rest.invariant in
    let child : Reached = record { key = c.key.result; is_inside = c.is_inside.result } in
    let first = picked-first 64 cells rest (omega (arith, c.facts.ensures)) (omega (arith, c.loop-rest-test.true)) before.below in
    let is : picked cells rest ≡ c.cell-cell.result ∷ picked cells next = first.is c.cell-cell.result ∙ ap (λ x. x ∷ picked cells next) (sym c.cell-cell.ensures) in
    record {
      below = omega (arith, and_le_r rest (rest - 1), before.below);
      keys = ap (λ (ds : List Reached). keys_of ds ++ map key_of (picked cells next)) c.push_reserved.ensures.items
          ∙ ap (λ (ks : List ℕ). ks ++ map key_of (picked cells next)) (map-append (λ (d : Reached). d.key) c.loop-rest.list.items (child ∷ [])
          ∙ ap (λ (k : ℕ). keys_of c.loop-rest.list.items ++ k ∷ []) c.key.ensures)
          ∙ append_assoc (keys_of c.loop-rest.list.items) (key_of c.cell-cell.result ∷ []) (map key_of (picked cells next))
          ∙ ap (λ (cs : List (Cell g.row.D)). keys_of c.loop-rest.list.items ++ map key_of cs) (sym is) ∙ before.keys;
      marks = record {
        more = before.marks.more ++ child ∷ [];
        is = c.push_reserved.ensures.items ∙ ap (λ (ds : List Reached). ds ++ child ∷ []) before.marks.is ∙ append_assoc old before.marks.more (child ∷ []);
        inside = All-push (λ d. d.is_inside ≡ true → NamesInside window cells d.key) before.marks.more child before.marks.inside
            (λ yes. (c.cell-cell.result, (at, first.within, sym c.cell-cell.ensures), sym c.key.ensures, c.is_inside.ensures yes));
      };
      room = omega (arith, c.push_reserved.ensures.len, c.push_reserved.ensures.capacity, ap length is, before.room);
      capacity = omega (arith, c.push_reserved.ensures.capacity, before.capacity);
    }

pub returns-clause-keys : goal.returns-clause-keys
returns-clause-keys g c =
    let cells = c.args.node.now.cells in
    let none : c.loop-rest.rest ≡ 0 = omega (arith, c.loop-rest-test.false) in
    sym (ap (λ (ks : List ℕ). keys_of c.loop-rest.list.items ++ ks) (ap (λ n. map key_of (picked cells n)) none ∙ ap (map key_of) (picked-none cells)) ∙ append-nil (keys_of c.loop-rest.list.items))
    ∙ c.loop-rest.invariant.keys

pub returns-in_err-reserve-clause-full : goal.returns-in_err-reserve-clause-full
returns-in_err-reserve-clause-full g c =
    on-err c.from_residual.result c.from_residual.ensures.0 (omega (arith, length-picked c.args.node.now.cells c.args.bits c.requires.within, c.in_err-reserve.ensures.full))
