-- The first bindings under each key, one binding after another.
use Rattle.std.proofs.Common.{◌≡◌, ℕ, ◌-◌, ◌^◌, Bool, true, false, ◌&&◌, ◌||◌, Option, None, Some, List, [], ◌∷◌, ◌++◌, length, map, min, refl, sym, ap, ◌∙◌, subst, append_assoc, append-nil, length-append, if◌then◌else◌, Decides, arith}
use Rattle.std.proofs.lemmas.List.Folds.{list_any-append}
use Rattle.std.proofs.lemmas.Slice.Eq.{slice_eq-Decides}
use Rattle.std.proofs.lemmas.Bool.Decides.{Decides-eqb}
use Rattle.std.specs.List.{list_any, list_all}
use Rattle.std.specs.Option.{option_eq}
use Rattle.std.specs.Str.{bytes_eq}
use Rattle.py_imports.specs.BindingValue.{BindingValue}
use Rattle.isort_find.specs.Key.{Key, key_of, key_eq}
use Rattle.isort_find.specs.Found.{has_one_like, firsts}
use Rattle.isort_find.specs.Cursor.{keys_of, next_count, knows_key}
use Rattle.isort_find.specs.declared.options.ImportKey.{ImportKey}

bytes_same : (a b : List ℕ) → Decides (bytes_eq a b) (a ≡ b)
bytes_same a b = slice_eq-Decides Decides-eqb a b (bytes_eq a b) refl

optional_same : (a b : Option (List ℕ)) → option_eq bytes_eq a b ≡ true → a ≡ b
optional_same None None h = refl
optional_same None (Some b) h = absurd cc
optional_same (Some a) None h = absurd cc
optional_same (Some a) (Some b) h = ap Some ((bytes_same a b).0 h)

optional_refl : (a : Option (List ℕ)) → option_eq bytes_eq a a ≡ true
optional_refl None = refl
optional_refl (Some a) = (bytes_same a a).1 refl

both : (a b : Bool) → a && b ≡ true → (a ≡ true) × (b ≡ true)
both true b h = (refl, h)
both false b h = absurd cc

-- keys are equal where the test says so
pub key_same : (a b : Key) → key_eq a b ≡ true → a ≡ b
key_same a b h =
    let text = both _ _ h in
    let others = both _ _ text.1 in
    let texts = (bytes_same a.text b.text).0 text.0 in
    let attributes = optional_same _ _ others.0 in
    let aliases = optional_same _ _ others.1 in
    (λ i. record { text = texts i; attribute = attributes i; alias = aliases i })

pub key_refl : (a : Key) → key_eq a a ≡ true
key_refl a = (λ i. (bytes_same a.text a.text).1 refl i && (optional_refl a.attribute i && optional_refl a.alias i))

-- whether one of these bindings has the key
abbrev any_with : ImportKey → Key → List BindingValue → Bool
any_with key k values = list_any (λ a. key_eq k (key_of key a)) values

kept : (x y f s : Bool) → (x || (y || false)) || f ≡ (x || (y || false)) || s → x || (y || f) ≡ x || (y || s)
kept true y f s h = refl
kept false true f s h = refl
kept false false f s h = h

dropped : (x y f s : Bool) → (y ≡ true → x ≡ true) → (x || (y || false)) || f ≡ (x || (y || false)) || s → x || f ≡ x || (y || s)
dropped true y f s t h = refl
dropped false true f s t h = absurd (let e = t refl in cc)
dropped false false f s t h = h

-- one more binding, which is dropped or kept
seen_step : (key : ImportKey) (k : Key) (earlier bs : List BindingValue) (b : BindingValue) (h : Bool) → has_one_like (Some key) earlier b ≡ h → any_with key k (earlier ++ b ∷ []) || any_with key k (firsts (Some key) (earlier ++ b ∷ []) bs) ≡ any_with key k (earlier ++ b ∷ []) || any_with key k bs → any_with key k earlier || any_with key k (if h then firsts (Some key) (earlier ++ b ∷ []) bs else b ∷ firsts (Some key) (earlier ++ b ∷ []) bs) ≡ any_with key k earlier || (key_eq k (key_of key b) || any_with key k bs)
seen_step key k earlier bs b true is more = dropped (any_with key k earlier) (key_eq k (key_of key b)) _ _ (λ e. subst (λ (x : Key). any_with key x earlier ≡ true) (sym (key_same k (key_of key b) e)) is) (subst (λ (x : Bool). x || any_with key k (firsts (Some key) (earlier ++ b ∷ []) bs) ≡ x || any_with key k bs) (list_any-append (λ a. key_eq k (key_of key a)) earlier (b ∷ [])) more)
seen_step key k earlier bs b false is more = kept (any_with key k earlier) (key_eq k (key_of key b)) _ _ (subst (λ (x : Bool). x || any_with key k (firsts (Some key) (earlier ++ b ∷ []) bs) ≡ x || any_with key k bs) (list_any-append (λ a. key_eq k (key_of key a)) earlier (b ∷ [])) more)

-- the first bindings have just the keys that all have
pub seen : (key : ImportKey) (k : Key) (earlier bs : List BindingValue) → any_with key k earlier || any_with key k (firsts (Some key) earlier bs) ≡ any_with key k earlier || any_with key k bs
seen key k earlier [] = refl
seen key k earlier (b ∷ bs) = seen_step key k earlier bs b (has_one_like (Some key) earlier b) refl (seen key k (earlier ++ b ∷ []) bs)

in_keys : (key : ImportKey) (k : Key) (values : List BindingValue) → list_any (key_eq k) (map (key_of key) values) ≡ any_with key k values
in_keys key k [] = refl
in_keys key k (b ∷ bs) = ap (λ t. key_eq k (key_of key b) || t) (in_keys key k bs)

-- a key is known just where a binding before has it
pub known_is : (unique : Option ImportKey) (looked : List BindingValue) (b : BindingValue) → knows_key unique (keys_of unique (firsts unique [] looked)) b ≡ has_one_like unique looked b
known_is None looked b = refl
known_is (Some key) looked b = in_keys key (key_of key b) (firsts (Some key) [] looked) ∙ seen key (key_of key b) [] looked

snoc_step : (unique : Option ImportKey) (earlier xs : List BindingValue) (x b : BindingValue) (h : Bool) → firsts unique (earlier ++ x ∷ []) (xs ++ b ∷ []) ≡ firsts unique (earlier ++ x ∷ []) xs ++ (if has_one_like unique ((earlier ++ x ∷ []) ++ xs) b then [] else b ∷ []) → (if h then firsts unique (earlier ++ x ∷ []) (xs ++ b ∷ []) else x ∷ firsts unique (earlier ++ x ∷ []) (xs ++ b ∷ [])) ≡ (if h then firsts unique (earlier ++ x ∷ []) xs else x ∷ firsts unique (earlier ++ x ∷ []) xs) ++ (if has_one_like unique (earlier ++ x ∷ xs) b then [] else b ∷ [])
snoc_step unique earlier xs x b true more = more ∙ (λ i. firsts unique (earlier ++ x ∷ []) xs ++ (if has_one_like unique (append_assoc earlier (x ∷ []) xs i) b then [] else b ∷ []))
snoc_step unique earlier xs x b false more = ap (λ t. x ∷ t) (more ∙ (λ i. firsts unique (earlier ++ x ∷ []) xs ++ (if has_one_like unique (append_assoc earlier (x ∷ []) xs i) b then [] else b ∷ [])))

firsts-snoc : (unique : Option ImportKey) (earlier xs : List BindingValue) (b : BindingValue) → firsts unique earlier (xs ++ b ∷ []) ≡ firsts unique earlier xs ++ (if has_one_like unique (earlier ++ xs) b then [] else b ∷ [])
firsts-snoc unique earlier [] b = (λ i. if has_one_like unique (sym (append-nil earlier) i) b then [] else b ∷ [])
firsts-snoc unique earlier (x ∷ xs) b = snoc_step unique earlier xs x b (has_one_like unique earlier x) (firsts-snoc unique (earlier ++ x ∷ []) xs b)

-- a binding with a known key adds nothing
pub firsts-known : (unique : Option ImportKey) (looked : List BindingValue) (b : BindingValue) → has_one_like unique looked b ≡ true → firsts unique [] (looked ++ b ∷ []) ≡ firsts unique [] looked
firsts-known unique looked b is = firsts-snoc unique [] looked b ∙ ap (λ (h : Bool). firsts unique [] looked ++ (if h then [] else b ∷ [])) is ∙ append-nil (firsts unique [] looked)

-- one with a new key is added
pub firsts-new : (unique : Option ImportKey) (looked : List BindingValue) (b : BindingValue) → has_one_like unique looked b ≡ false → firsts unique [] (looked ++ b ∷ []) ≡ firsts unique [] looked ++ b ∷ []
firsts-new unique looked b is = firsts-snoc unique [] looked b ∙ ap (λ (h : Bool). firsts unique [] looked ++ (if h then [] else b ∷ [])) is

-- bindings with known keys add nothing
pub firsts-all_known : (unique : Option ImportKey) (looked dropped : List BindingValue) → list_all (knows_key unique (keys_of unique (firsts unique [] looked))) dropped ≡ true → firsts unique [] (looked ++ dropped) ≡ firsts unique [] looked
firsts-all_known unique looked [] all = ap (firsts unique []) (append-nil looked)
firsts-all_known unique looked (d ∷ ds) all =
    let parts = both _ _ all in
    let one = firsts-known unique looked d (sym (known_is unique looked d) ∙ parts.0) in
    let rest = firsts-all_known unique (looked ++ d ∷ []) ds (subst (λ (bs : List BindingValue). list_all (knows_key unique (keys_of unique bs)) ds ≡ true) (sym one) parts.1) in
    ap (firsts unique []) (sym (append_assoc looked (d ∷ []) ds)) ∙ rest ∙ one

map-snoc : (key : ImportKey) (xs : List BindingValue) (b : BindingValue) → map (key_of key) (xs ++ b ∷ []) ≡ map (key_of key) xs ++ key_of key b ∷ []
map-snoc key [] b = refl
map-snoc key (x ∷ xs) b = ap (λ t. key_of key x ∷ t) (map-snoc key xs b)

pub keys_of-snoc : (unique : Option ImportKey) (values : List BindingValue) (b : BindingValue) → keys_of unique (values ++ b ∷ []) ≡ keys_of unique values ++ keys_of unique (b ∷ [])
keys_of-snoc None values b = refl
keys_of-snoc (Some key) values b = map-snoc key values b

pub given-snoc : (values : List BindingValue) (b : BindingValue) → next_count (min (length values) (2 ^ 64 - 1)) ≡ min (length (values ++ b ∷ [])) (2 ^ 64 - 1)
given-snoc values b = omega (arith, length-append values (b ∷ []))
