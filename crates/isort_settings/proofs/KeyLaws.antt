-- Facts about the table of keys.
use Rattle.std.proofs.Common.{◌≡◌, ℕ, Bool, true, ◌&&◌, List, [], ◌∷◌, ◌++◌, ◌⊎◌, inl, inr, map, Contains, Ordering, Less, Equal, Greater, refl, lit<}
use Rattle.std.proofs.lemmas.Bool.{and_parts}
use Rattle.std.specs.Cmp.Lexicographic.{slice_cmp}
use Rattle.std.specs.List.{AllByRecursion, list_all}
use Rattle.std.specs.List.Sorted.{IsStrictlySortedBy}
use Rattle.std.specs.Ordering.{nat_cmp, is_lt}
use Rattle.isort_settings.specs.declared.key.SettingKey.{SettingKey}
use Rattle.isort_settings.specs.declared.key.SettingKey.TheVariants as key
use Rattle.isort_settings.specs.Keys.{name_of, keys_in_order, IsOwnList, Ascends}

-- each key but those of own lists stands in the list at its place
pub keys-complete : (k : SettingKey) → IsOwnList k ⊎ Contains (keys_in_order ++ key.Profile ∷ key.Sections ∷ key.Tool ∷ key.ToolIsort ∷ []) k
unfolding keys_in_order
keys-complete key.CaseSensitive = inr (0, lit< tt, refl)
keys-complete key.CombineAsImports = inr (1, lit< tt, refl)
keys-complete key.DefaultSection = inr (2, lit< tt, refl)
keys-complete key.EnsureNewlineBeforeComments = inr (3, lit< tt, refl)
keys-complete key.ExtraStandardLibrary = inr (4, lit< tt, refl)
keys-complete key.ForceGridWrap = inr (5, lit< tt, refl)
keys-complete key.ForceSingleLine = inr (6, lit< tt, refl)
keys-complete key.ForceSortWithinSections = inr (7, lit< tt, refl)
keys-complete key.IncludeTrailingComma = inr (8, lit< tt, refl)
keys-complete key.KnownFirstParty = inr (9, lit< tt, refl)
keys-complete key.KnownFutureLibrary = inr (10, lit< tt, refl)
keys-complete key.KnownLocalFolder = inr (11, lit< tt, refl)
keys-complete key.KnownStandardLibrary = inr (12, lit< tt, refl)
keys-complete key.KnownThirdParty = inr (13, lit< tt, refl)
keys-complete key.LineLength = inr (14, lit< tt, refl)
keys-complete key.LinesAfterImports = inr (15, lit< tt, refl)
keys-complete key.LinesBetweenSections = inr (16, lit< tt, refl)
keys-complete key.LinesBetweenTypes = inr (17, lit< tt, refl)
keys-complete key.MultiLineOutput = inr (18, lit< tt, refl)
keys-complete key.OrderByType = inr (19, lit< tt, refl)
keys-complete key.UseParentheses = inr (20, lit< tt, refl)
keys-complete key.Profile = inr (21, lit< tt, refl)
keys-complete key.Sections = inr (22, lit< tt, refl)
keys-complete key.Tool = inr (23, lit< tt, refl)
keys-complete key.ToolIsort = inr (24, lit< tt, refl)
keys-complete (key.OwnList name) = inl (name, refl)

-- `Ascends` as a test
ascends : List (List ℕ) → Bool
ascends [] = true
ascends (x ∷ xs) = list_all (λ y. is_lt (slice_cmp nat_cmp x y)) xs && ascends xs

Less-from_is_lt : (o : Ordering) → is_lt o ≡ true → o ≡ Less
Less-from_is_lt Less h = refl
Less-from_is_lt Equal h = cc
Less-from_is_lt Greater h = cc

all_below : (x : List ℕ) (xs : List (List ℕ)) → list_all (λ y. is_lt (slice_cmp nat_cmp x y)) xs ≡ true → AllByRecursion (λ y. slice_cmp nat_cmp x y ≡ Less) xs
all_below x [] h = tt
all_below x (y ∷ ys) h =
    let parts = and_parts (is_lt (slice_cmp nat_cmp x y)) (list_all (λ z. is_lt (slice_cmp nat_cmp x z)) ys) h in
    (Less-from_is_lt _ parts.0, all_below x ys parts.1)

Ascends-from_test : (xs : List (List ℕ)) → ascends xs ≡ true → Ascends xs
unfolding ascends IsStrictlySortedBy
Ascends-from_test [] h = tt
Ascends-from_test (x ∷ xs) h =
    let parts = and_parts (list_all (λ y. is_lt (slice_cmp nat_cmp x y)) xs) (ascends xs) h in
    (all_below x xs parts.0, Ascends-from_test xs parts.1)

-- the keys in order have names that ascend
pub keys-ascend : Ascends (map name_of keys_in_order)
unfolding ascends keys_in_order
keys-ascend = Ascends-from_test _ refl
