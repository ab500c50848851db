-- States whose tables differ in their trees alone: whatever trees the tables have, and get, a statement answers the same
-- to both, except for the dump of a tree, and leaves such states.
use Rattle.std.proofs.Common.{◌≡◌, ◌∙◌, ◌⊎◌, inl, inr, ℕ, suc, ◌+◌, Bool, true, false, cond, not, ◌&&◌, List, [], ◌∷◌, ◌++◌, map, filter, length, sum_by, Option, Some, None, Result, Ok, Err, refl, sym, ap, subst}
use Rattle.std.specs.Prelude.{find, is_some, nat_le, if◌then◌else◌}
use Rattle.std.proofs.lemmas.List.Sums.{sum_by-cons}
use Rattle.rt_check_dump.specs.declared.dump.AnyShadow.{AnyShadow}
use Rattle.rt_sql_statement.specs.Name.{same_name}
use Rattle.rt_sql_statement.specs.declared.statement.ColumnDef.{ColumnDef}
use Rattle.rt_sql_statement.specs.declared.statement.Test.{Test}
use Rattle.rt_sql_statement.specs.declared.statement.Edit.{Edit}
use Rattle.rt_sql_request.specs.declared.request.Stmt.{Stmt}
use Rattle.rt_sql_request.specs.declared.request.Stmt.TheVariants.{Create, Drop, Edit as Edits, Select, Watch, Unwatch, View, Check, Nodes}
use Rattle.rt_sql_statement.specs.declared.refusal.Refusal.{Refusal}
use Rattle.rt_table_row.specs.Columns.{Columns, columns_of}
use Rattle.rt_table_row.specs.Rows.{values_of}
use Rattle.rt_table_row.specs.Edits.{and_then, steps_of}
use Rattle.rt_table_row.specs.Tables.{TableLists, new_table, edited, watch, unwatch, view, has_view}
use Rattle.rt_table.specs.AnyTrees.{new_tree}
use Rattle.rt_reply.specs.declared.reply.Reply.{Reply}
use Rattle.rt_reply.specs.declared.reply.Reply.TheVariants.{Nothing, Rows, Dump}
use Rattle.rt_session.specs.Session.{State, NamedTable, Outcome, is_named, table_of, with_table, with_tree, without_table, on_table, most_tables, create_outcome, is_watched, drop_outcome, edit_outcome, most_views, count_views, watched_by, watch_outcome, on_watched, unwatch_outcome, select_reply, view_reply, check_reply, nodes_reply, reply_to, answer}

-- ---- tables

-- the same table, of whatever tree
abbrev pub Alike : NamedTable → NamedTable → Type 0
Alike t u = (u.name ≡ t.name) × (u.table ≡ t.table)

abbrev pub AllAlike : List NamedTable → List NamedTable → Type 0
AllAlike [] [] = Unit {0}
AllAlike (t ∷ ts) (u ∷ us) = Alike t u × AllAlike ts us
AllAlike ts us = ⊥

abbrev pub FoundAlike : Option NamedTable → Option NamedTable → Type 0
FoundAlike None None = Unit {0}
FoundAlike (Some t) (Some u) = Alike t u
FoundAlike one other = ⊥

abbrev pub SameTables : State → State → Type 0
SameTables s u = (u.capacity ≡ s.capacity) × AllAlike s.tables u.tables

find_alike : (p : NamedTable → Bool) → ((t u : NamedTable) → Alike t u → p u ≡ p t) → (ts us : List NamedTable) → AllAlike ts us → FoundAlike (find p ts) (find p us)
find_alike p same [] [] all = tt
find_alike p same [] (u ∷ us) all = absurd all
find_alike p same (t ∷ ts) [] all = absurd all
find_alike p same (t ∷ ts) (u ∷ us) (here, later) =
    subst (λ b. FoundAlike (cond (p t) (Some t) (find p ts)) (cond b (Some u) (find p us))) (sym (same t u here))
    (elim (p t) as (λ b. FoundAlike (cond b (Some t) (find p ts)) (cond b (Some u) (find p us))) [
      | true ↦ here
      | false ↦ find_alike p same ts us later
    ])

is_some_alike : (one other : Option NamedTable) → FoundAlike one other → is_some other ≡ is_some one
is_some_alike None None found = refl
is_some_alike (Some t) (Some u) found = refl
is_some_alike None (Some u) found = absurd found
is_some_alike (Some t) None found = absurd found

map_alike : (f g : NamedTable → NamedTable) → ((t u : NamedTable) → Alike t u → Alike (f t) (g u)) → (ts us : List NamedTable) → AllAlike ts us → AllAlike (map f ts) (map g us)
map_alike f g same [] [] all = tt
map_alike f g same [] (u ∷ us) all = absurd all
map_alike f g same (t ∷ ts) [] all = absurd all
map_alike f g same (t ∷ ts) (u ∷ us) (here, later) = (same t u here, map_alike f g same ts us later)

filter_alike : (p : NamedTable → Bool) → ((t u : NamedTable) → Alike t u → p u ≡ p t) → (ts us : List NamedTable) → AllAlike ts us → AllAlike (filter p ts) (filter p us)
filter_alike p same [] [] all = tt
filter_alike p same [] (u ∷ us) all = absurd all
filter_alike p same (t ∷ ts) [] all = absurd all
filter_alike p same (t ∷ ts) (u ∷ us) (here, later) =
    subst (λ b. AllAlike (cond (p t) (t ∷ filter p ts) (filter p ts)) (cond b (u ∷ filter p us) (filter p us))) (sym (same t u here))
    (elim (p t) as (λ b. AllAlike (cond b (t ∷ filter p ts) (filter p ts)) (cond b (u ∷ filter p us) (filter p us))) [
      | true ↦ (here, filter_alike p same ts us later)
      | false ↦ filter_alike p same ts us later
    ])

one_more_alike : (t u : NamedTable) → Alike t u → (ts us : List NamedTable) → AllAlike ts us → AllAlike (ts ++ t ∷ []) (us ++ u ∷ [])
one_more_alike t u last [] [] all = (last, tt)
one_more_alike t u last [] (v ∷ us) all = absurd all
one_more_alike t u last (v ∷ ts) [] all = absurd all
one_more_alike t u last (v ∷ ts) (w ∷ us) (here, later) = (here, one_more_alike t u last ts us later)

same_length : (ts us : List NamedTable) → AllAlike ts us → length us ≡ length ts
same_length [] [] all = refl
same_length [] (u ∷ us) all = absurd all
same_length (t ∷ ts) [] all = absurd all
same_length (t ∷ ts) (u ∷ us) (here, later) = ap suc (same_length ts us later)

same_sum : (ts us : List NamedTable) → AllAlike ts us → sum_by (λ t. length t.table.views) us ≡ sum_by (λ t. length t.table.views) ts
same_sum [] [] all = refl
same_sum [] (u ∷ us) all = absurd all
same_sum (t ∷ ts) [] all = absurd all
same_sum (t ∷ ts) (u ∷ us) (here, later) =
    sum_by-cons (λ (v : NamedTable). length v.table.views) u us
    ∙ ap (λ (l : TableLists). length l.views + sum_by (λ v. length v.table.views) us) here.1
    ∙ ap (λ (n : ℕ). length t.table.views + n) (same_sum ts us later)
    ∙ sym (sum_by-cons (λ (v : NamedTable). length v.table.views) t ts)

-- ---- look-ups

same_named : (name : List ℕ) (t u : NamedTable) → Alike t u → is_named name u ≡ is_named name t
same_named name t u alike = ap (same_name name) alike.0

same_view : (name : List ℕ) (t u : NamedTable) → Alike t u → has_view u.table name ≡ has_view t.table name
same_view name t u alike = ap (λ (l : TableLists). has_view l name) alike.1

pub table_alike : (s u : State) → SameTables s u → (name : List ℕ) → FoundAlike (table_of s name) (table_of u name)
table_alike s u same name = find_alike (is_named name) (same_named name) s.tables u.tables same.1

watched_alike : (s u : State) → SameTables s u → (name : List ℕ) → FoundAlike (watched_by s name) (watched_by u name)
watched_alike s u same name = find_alike (λ t. has_view t.table name) (same_view name) s.tables u.tables same.1

replaced_alike : (b c : Bool) → c ≡ b → (t u v w : NamedTable) → Alike t u → Alike v w → Alike (if b then v else t) (if c then w else u)
replaced_alike true true e t u v w old new = new
replaced_alike false false e t u v w old new = old
replaced_alike true false e t u v w old new = absurd (let none : ⊥ = cc in none)
replaced_alike false true e t u v w old new = absurd (let none : ⊥ = cc in none)

with_tree_alike : (s u : State) → SameTables s u → (name : List ℕ) (table : TableLists) (tree given : AnyShadow) → SameTables (with_tree s name table tree) (with_tree u name table given)
with_tree_alike s u same name table tree given = (
  same.0,
  map_alike (λ t. if is_named name t then record t { table = table; tree = tree } else t) (λ t. if is_named name t then record t { table = table; tree = given } else t)
      (λ t v alike. replaced_alike (is_named name t) (is_named name v) (same_named name t v alike) t v (record t { table = table; tree = tree }) (record v { table = table; tree = given }) alike (alike.0, refl))
      s.tables u.tables same.1,
)

with_table_alike : (s u : State) → SameTables s u → (name other : List ℕ) → other ≡ name → (table : TableLists) → SameTables (with_table s name table) (with_table u other table)
with_table_alike s u same name other is table = (
  same.0,
  map_alike (λ t. if is_named name t then record t { table = table } else t) (λ t. if is_named other t then record t { table = table } else t)
      (λ t v alike. replaced_alike (is_named name t) (is_named other v) (ap (λ (n : List ℕ). is_named n v) is ∙ same_named name t v alike) t v (record t { table = table }) (record v { table = table }) alike (alike.0, refl))
      s.tables u.tables same.1,
)

without_table_alike : (s u : State) → SameTables s u → (name : List ℕ) → SameTables (without_table s name) (without_table u name)
without_table_alike s u same name =
    (same.0, filter_alike (λ t. not (is_named name t)) (λ t v alike. ap not (same_named name t v alike)) s.tables u.tables same.1)

-- ---- answers

module _ (T : AnyShadow → AnyShadow → Type 0) where
  -- the same reply, or dumps of trees that are related
  abbrev pub SameReply : Reply → Reply → Type 0
  SameReply one other = (one ≡ other) ⊎ ((tree : AnyShadow) × (given : AnyShadow) × (one ≡ Dump tree) × (other ≡ Dump given) × T tree given)

  abbrev pub SameAnswer : Outcome → Outcome → Type 0
  SameAnswer (Ok one) (Ok other) = SameReply one.0 other.0 × SameTables one.1 other.1
  SameAnswer (Err one) (Err other) = one ≡ other
  SameAnswer one other = ⊥

  -- the trees of tables of one name are related
  abbrev pub FoundRelated : Option NamedTable → Option NamedTable → Type 0
  FoundRelated (Some t) (Some u) = T t.tree u.tree
  FoundRelated one other = Unit {0}

  abbrev pub AreRelated : State → State → Type 0
  AreRelated s u = (name : List ℕ) → FoundRelated (table_of s name) (table_of u name)

  -- the same refusal, or the same reply, or dumps of trees that are related
  abbrev pub SameReplies : Result Reply Refusal → Result Reply Refusal → Type 0
  SameReplies (Ok one) (Ok other) = SameReply one other
  SameReplies (Err one) (Err other) = one ≡ other
  SameReplies one other = ⊥

  both_choose : (b c : Bool) → c ≡ b → (x y z w : Outcome) → SameAnswer x z → SameAnswer y w → SameAnswer (if b then x else y) (if c then z else w)
  both_choose true true e x y z w first second = first
  both_choose false false e x y z w first second = second
  both_choose true false e x y z w first second = absurd (let none : ⊥ = cc in none)
  both_choose false true e x y z w first second = absurd (let none : ⊥ = cc in none)

  both_next : {A : Type 0} (r : Result A Refusal) (f g : A → Outcome) → ((a : A) → SameAnswer (f a) (g a)) → SameAnswer (and_then r f) (and_then r g)
  both_next (Ok a) f g same = same a
  both_next (Err refusal) f g same = refl

  on_both : (one other : Option NamedTable) → FoundAlike one other → (f g : TableLists → Outcome) → ((t : TableLists) → SameAnswer (f t) (g t)) → SameAnswer (on_table one f) (on_table other g)
  on_both None None found f g same = refl
  on_both (Some t) (Some u) found f g same = subst (λ (l : TableLists). SameAnswer (f t.table) (g l)) (sym found.1) (same t.table)
  on_both None (Some u) found f g same = absurd found
  on_both (Some t) None found f g same = absurd found

  on_both_watched : (one other : Option NamedTable) → FoundAlike one other → (f g : NamedTable → Outcome) → ((t u : NamedTable) → Alike t u → SameAnswer (f t) (g u)) → SameAnswer (on_watched one f) (on_watched other g)
  on_both_watched None None found f g same = refl
  on_both_watched (Some t) (Some u) found f g same = same t u found
  on_both_watched None (Some u) found f g same = absurd found
  on_both_watched (Some t) None found f g same = absurd found

  module _ (s u : State) (same : SameTables s u) where
    both_keep : (reply : Reply) → SameAnswer (Ok (reply, s)) (Ok (reply, u))
    both_keep reply = (inl refl, same)

    both_made : (name : List ℕ) (c : Columns) →
        SameAnswer (Ok (Nothing, record s { tables = s.tables ++ record { name = name; table = new_table c; tree = new_tree s.capacity c } ∷ [] }))
        (Ok (Nothing, record u { tables = u.tables ++ record { name = name; table = new_table c; tree = new_tree u.capacity c } ∷ [] }))
    both_made name c = (
      inl refl,
      (
        same.0,
        one_more_alike (record { name = name; table = new_table c; tree = new_tree s.capacity c }) (record { name = name; table = new_table c; tree = new_tree u.capacity c }) (refl, refl) s.tables u.tables same.1,
      ),
    )

    both_create : (name : List ℕ) (if_absent : Bool) (columns : List ColumnDef) → SameAnswer (create_outcome s name if_absent columns) (create_outcome u name if_absent columns)
    both_create name if_absent columns =
        both_choose (is_some (table_of s name)) (is_some (table_of u name)) (is_some_alike (table_of s name) (table_of u name) (table_alike s u same name)) _ _ _ _
        (both_choose if_absent if_absent refl _ _ _ _ (both_keep Nothing) refl)
        (both_choose (nat_le most_tables (length s.tables)) (nat_le most_tables (length u.tables)) (ap (nat_le most_tables) (same_length s.tables u.tables same.1)) _ _ _ _ refl
        (both_next (columns_of columns) _ _ (both_made name)))

    both_drop : (name : List ℕ) (if_there : Bool) → SameAnswer (drop_outcome s name if_there) (drop_outcome u name if_there)
    both_drop name if_there =
        let found = table_alike s u same name in
        both_choose (if_there && not (is_some (table_of s name))) (if_there && not (is_some (table_of u name))) (ap (λ (b : Bool). if_there && not b) (is_some_alike (table_of s name) (table_of u name) found)) _ _ _ _
        (both_keep Nothing)
        (on_both (table_of s name) (table_of u name) found _ _
        (λ t. both_choose (is_watched t) (is_watched t) refl _ _ _ _ refl (inl refl, without_table_alike s u same name)))

    both_edit : (tree given : AnyShadow) (name : List ℕ) (edit : Edit)
        → SameAnswer (on_table (table_of s name) (λ t. edit_outcome tree s name t (steps_of edit t.columns t.rows))) (on_table (table_of u name) (λ t. edit_outcome given u name t (steps_of edit t.columns t.rows)))
    both_edit tree given name edit =
        on_both (table_of s name) (table_of u name) (table_alike s u same name) (λ t. edit_outcome tree s name t (steps_of edit t.columns t.rows)) (λ t. edit_outcome given u name t (steps_of edit t.columns t.rows))
        (λ t. both_next (edited t (steps_of edit t.columns t.rows)) _ _ (λ done. (inl refl, with_tree_alike s u same name done.1 tree given)))

    both_watch : (name table : List ℕ) (cond : List Test) (t : TableLists) → SameAnswer (watch_outcome s name table cond t) (watch_outcome u name table cond t)
    both_watch name table cond t =
        both_choose (is_some (watched_by s name)) (is_some (watched_by u name)) (is_some_alike (watched_by s name) (watched_by u name) (watched_alike s u same name)) _ _ _ _ refl
        (both_choose (nat_le most_views (count_views s)) (nat_le most_views (count_views u)) (ap (nat_le most_views) (same_sum s.tables u.tables same.1)) _ _ _ _ refl
        (both_next (watch t name cond) _ _ (λ after. (inl refl, with_table_alike s u same table table refl after))))

    both_unwatch : (name : List ℕ) (t v : NamedTable) → Alike t v → SameAnswer (unwatch_outcome s name t) (unwatch_outcome u name v)
    both_unwatch name t v alike =
        subst (λ (l : TableLists). SameAnswer (unwatch_outcome s name t) (and_then (unwatch l name) (λ after. Ok (Nothing, with_table u v.name after)))) (sym alike.1)
        (both_next (unwatch t.table name) _ _ (λ after. (inl refl, with_table_alike s u same t.name v.name alike.0 after)))

    -- ---- questions: the same reply, which leaves the state

    itself : (reply : Result Reply Refusal) → SameReplies reply reply
    itself (Ok reply) = inl refl
    itself (Err refusal) = refl

    reply_on_both : (one other : Option NamedTable) → FoundAlike one other → (f : TableLists → Result Reply Refusal) → SameReplies (on_table one f) (on_table other f)
    reply_on_both None None found f = refl
    reply_on_both (Some t) (Some v) found f = subst (λ (l : TableLists). SameReplies (f t.table) (f l)) (sym found.1) (itself (f t.table))
    reply_on_both None (Some v) found f = absurd found
    reply_on_both (Some t) None found f = absurd found

    both_view : (name : List ℕ) (one other : Option NamedTable) → FoundAlike one other → SameReplies (on_watched one (view_reply name)) (on_watched other (view_reply name))
    both_view name None None found = refl
    both_view name (Some t) (Some v) found =
        subst (λ (l : TableLists). SameReplies (view_reply name t) (and_then (view l name) (λ rows. Ok (Rows (map values_of rows))))) (sym found.1) (itself (view_reply name t))
    both_view name None (Some v) found = absurd found
    both_view name (Some t) None found = absurd found

    both_nodes : (one other : Option NamedTable) → FoundAlike one other → FoundRelated one other → SameReplies (nodes_reply one) (nodes_reply other)
    both_nodes None None found related = refl
    both_nodes (Some t) (Some v) found related = inr (t.tree, v.tree, refl, refl, related)
    both_nodes None (Some v) found related = absurd found
    both_nodes (Some t) None found related = absurd found

    both_reply : AreRelated s u → (question : Stmt) → SameReplies (reply_to s question) (reply_to u question)
    both_reply related (Select columns name cond order) = reply_on_both (table_of s name) (table_of u name) (table_alike s u same name) (select_reply columns cond order)
    both_reply related (View name) = both_view name (watched_by s name) (watched_by u name) (watched_alike s u same name)
    both_reply related (Check name) = reply_on_both (table_of s name) (table_of u name) (table_alike s u same name) check_reply
    both_reply related (Nodes name) = both_nodes (table_of s name) (table_of u name) (table_alike s u same name) (related name)
    both_reply related other = inl refl

    both_leave : (one other : Result Reply Refusal) → SameReplies one other → SameAnswer (and_then one (λ reply. Ok (reply, s))) (and_then other (λ reply. Ok (reply, u)))
    both_leave (Ok one) (Ok other) same_reply = (same_reply, same)
    both_leave (Err one) (Err other) same_refusal = same_refusal
    both_leave (Ok one) (Err other) none = absurd none
    both_leave (Err one) (Ok other) none = absurd none

    pub both_answer : AreRelated s u → (tree given : AnyShadow) (statement : Stmt) → SameAnswer (answer tree s statement) (answer given u statement)
    both_answer related tree given (Create name if_absent columns) = both_create name if_absent columns
    both_answer related tree given (Drop name if_there) = both_drop name if_there
    both_answer related tree given (Edits name edit) = both_edit tree given name edit
    both_answer related tree given (Watch name table cond) =
        on_both (table_of s table) (table_of u table) (table_alike s u same table) _ _ (both_watch name table cond)
    both_answer related tree given (Unwatch name) =
        on_both_watched (watched_by s name) (watched_by u name) (watched_alike s u same name) _ _ (both_unwatch name)
    both_answer related tree given question = both_leave (reply_to s question) (reply_to u question) (both_reply related question)
