-- A map of statements, as each statement finds in it what was seen of it.
use Rattle.std.proofs.Common.{◌≡◌, Bool, true, false, cond, ◌&&◌, Option, None, Some, List, [], ◌∷◌, Ordering, Less, Equal, Greater, refl, sym, ap, ◌∙◌, subst, string_bytes}
use Rattle.std.proofs.Math.Bool.{and-true, and_assoc}
use Rattle.std.specs.Prelude.{bytes_eq}
use Rattle.std.specs.Cmp.{ties}
use Rattle.std.specs.BTreeMap.{insert_entry, is_at}
use Rattle.std.specs.Map.{lookup}
use Rattle.std.specs.Option.{option_map, unwrap_or}
use Rattle.std.specs.Ordering.{is_eq, match_ordering}
use Rattle.std.specs.String.{string_eq}
use Rattle.isort_sort.specs.Private.Gathered.{Brought, Seen, nothing_seen, with_brought, seen_with, seen_value, found}
use Rattle.isort_sort.specs.Statement.{Statement, same_statement}
use Rattle.isort_sort.specs.Private.Values.{statement_value}
use Rattle.isort_sort.specs.contracts.statement.StatementOrd.TheImpl as ordered
use Rattle.isort_sort.specs.contracts.statement.StatementPartialEq.TheImpl as same
use Rattle.isort_sort.specs.contracts.statement.StatementPartialOrd.TheImpl as partly
use Rattle.isort_sort.specs.declared.group.Gathered as code_gathered
use Rattle.isort_sort.specs.declared.statement.Statement as code
use Rattle.isort_sort.specs.declared.statement.Statement.TheVariants as form
use Rattle.isort_sort.proofs.Orders.Equality.{aliases, is_same, itself, same_test}

-- what `==` of statements says
pub statement_eq : (a b : code.Statement) → same.eq-value.it a b ≡ same_statement (statement_value a) (statement_value b)
statement_eq (form.Straight m x) (form.Straight n y) = λ i. sym (and-true (bytes_eq (string_bytes m) (string_bytes n))) i && aliases x y i
statement_eq (form.Star m) (form.Star n) = sym (and-true _ ∙ and-true (string_eq m n))
statement_eq (form.Names m) (form.Names n) = sym (and-true _ ∙ and-true (string_eq m n))
statement_eq (form.Single m i) (form.Single n j) = ap (λ t. string_eq m n && (string_eq i.name j.name && t)) (aliases i.alias j.alias) ∙ sym (and_assoc (string_eq m n) (string_eq i.name j.name) _)
statement_eq _ _ = refl

-- where `cmp` of statements says `Equal`
pub statement_cmp : (a b : code.Statement) → is_eq (ordered.cmp-value.it a b) ≡ same_statement (statement_value a) (statement_value b)
statement_cmp a b = sym (ties partly.Laws.laws-law ordered.Laws.matches_partial_cmp-law a b) ∙ statement_eq a b

-- the test for the same statement goes either way
same_back : (a b : Statement) → same_statement a b ≡ true → same_statement b a ≡ true
same_back a b h = subst (λ (x : Statement). same_statement x a ≡ true) (is_same a b h) (itself a)

pub same_either_way : (a b : Statement) → same_statement a b ≡ same_statement b a
same_either_way a b = same_test _ _ (same_back a b) (same_back b a)

twice : {X : Type 0} (b : Bool) (x y z : X) → cond b x z ≡ cond b x (cond b y z)
twice true x y z = refl
twice false x y z = refl

apart : {X : Type 0} (a b : Bool) (x y z : X) → (a ≡ true → b ≡ true → ⊥) → cond a x (cond b y z) ≡ cond b y (cond a x z)
apart true true x y z never = absurd (never refl refl)
apart true false x y z never = refl
apart false b x y z never = refl

module _ (cmp : code.Statement → code.Statement → Ordering) (agree : (a b : code.Statement) → is_eq (cmp a b) ≡ same_statement (statement_value a) (statement_value b)) where
  -- the map with one more entry
  pub found-insert_entry : (s : Statement) (k : code.Statement) (g : code_gathered.Gathered) (es : List (code.Statement × code_gathered.Gathered)) → found s (insert_entry cmp es k g) ≡ cond (same_statement (statement_value k) s) (Some (seen_value g)) (found s es)
  found-insert_entry s k g [] = refl
  found-insert_entry s k g (e ∷ es) = by (cmp k e.0) refl (found-insert_entry s k g es)
    where
      by : (o : Ordering) → cmp k e.0 ≡ o → found s (insert_entry cmp es k g) ≡ cond (same_statement (statement_value k) s) (Some (seen_value g)) (found s es) → found s (match_ordering o ((k, g) ∷ e ∷ es) ((e.0, g) ∷ es) (e ∷ insert_entry cmp es k g)) ≡ cond (same_statement (statement_value k) s) (Some (seen_value g)) (cond (same_statement (statement_value e.0) s) (Some (seen_value e.1)) (found s es))
      by Less is more = refl
      by Equal is more =
          subst (λ (x : Statement). cond (same_statement (statement_value e.0) s) (Some (seen_value g)) (found s es) ≡ cond (same_statement x s) (Some (seen_value g)) (cond (same_statement (statement_value e.0) s) (Some (seen_value e.1)) (found s es))) (sym (is_same (statement_value k) (statement_value e.0) (sym (agree k e.0) ∙ ap is_eq is)))
          (twice (same_statement (statement_value e.0) s) (Some (seen_value g)) (Some (seen_value e.1)) (found s es))
      by Greater is more =
          ap (λ o. cond (same_statement (statement_value e.0) s) (Some (seen_value e.1)) o) more
          ∙ apart (same_statement (statement_value e.0) s) (same_statement (statement_value k) s) (Some (seen_value e.1)) (Some (seen_value g)) (found s es)
          (λ a b.
          let one : statement_value e.0 ≡ s = is_same (statement_value e.0) s a in
          let other : statement_value k ≡ s = is_same (statement_value k) s b in
          let yes : same_statement (statement_value k) (statement_value e.0) ≡ true = subst (λ (x : Statement). same_statement (statement_value k) x ≡ true) (sym one) b in
          let no : same_statement (statement_value k) (statement_value e.0) ≡ false = sym (agree k e.0) ∙ ap is_eq is in
          absurd (cc))

  -- what a look-up finds
  pub found-lookup : (k : code.Statement) (es : List (code.Statement × code_gathered.Gathered)) → option_map seen_value (lookup (is_at (cmp k)) es) ≡ found (statement_value k) es
  found-lookup k [] = refl
  found-lookup k (e ∷ es) = by (is_eq (cmp k e.0)) refl (found-lookup k es)
    where
      by : (b : Bool) → is_eq (cmp k e.0) ≡ b → option_map seen_value (lookup (is_at (cmp k)) es) ≡ found (statement_value k) es → option_map seen_value (cond b (Some e.1) (lookup (is_at (cmp k)) es)) ≡ cond (same_statement (statement_value e.0) (statement_value k)) (Some (seen_value e.1)) (found (statement_value k) es)
      by true is more = rw (same_either_way (statement_value e.0) (statement_value k) ∙ sym (agree k e.0) ∙ is) refl
      by false is more = rw (same_either_way (statement_value e.0) (statement_value k) ∙ sym (agree k e.0) ∙ is) more

  seen-unwrap_or : (o : Option code_gathered.Gathered) (fresh : code_gathered.Gathered) → seen_value fresh ≡ nothing_seen → seen_value (unwrap_or o fresh) ≡ unwrap_or (option_map seen_value o) nothing_seen
  seen-unwrap_or None fresh none = none
  seen-unwrap_or (Some g) fresh none = refl

  -- the map after one more import
  pub gathers : (old new : List (code.Statement × code_gathered.Gathered)) (k : code.Statement) (fresh before after : code_gathered.Gathered) (b : Brought)
      → new ≡ insert_entry cmp old k after → before ≡ unwrap_or (lookup (is_at (cmp k)) old) fresh → seen_value fresh ≡ nothing_seen → b.statement ≡ statement_value k → seen_value after ≡ with_brought (seen_value before) b
      → (s : Statement) → found s new ≡ seen_with s (found s old) b
  gathers old new k fresh before after b made was none of added s =
      ap (found s) made ∙ found-insert_entry s k after old ∙ by (same_statement (statement_value k) s) refl ∙ ap (λ (x : Statement). cond (same_statement x s) (Some (with_brought (unwrap_or (found s old) nothing_seen) b)) (found s old)) (sym of)
    where
      by : (t : Bool) → same_statement (statement_value k) s ≡ t → cond t (Some (seen_value after)) (found s old) ≡ cond t (Some (with_brought (unwrap_or (found s old) nothing_seen) b)) (found s old)
      by true is =
          ap Some (added ∙ ap (λ (x : Seen). with_brought x b) (ap seen_value was ∙ seen-unwrap_or (lookup (is_at (cmp k)) old) fresh none ∙ ap (λ o. unwrap_or o nothing_seen) (found-lookup k old ∙ ap (λ (x : Statement). found x old) (is_same (statement_value k) s is))))
      by false is = refl
