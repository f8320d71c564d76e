-- The texts of keys, and what a cursor does with one.
use Rattle.std.proofs.Common.{◌≡◌, Bool, not, ◌&&◌, Option, None, Some, List, [], ◌∷◌, ◌++◌, refl, sym, ap, ◌∙◌, if◌then◌else◌, String, Global, string_bytes}
use Rattle.std.specs.List.{list_any}
use Rattle.std.specs.Option.{option_eq, option_map}
use Rattle.std.specs.String.{string_eq}
use Rattle.std.specs.Str.{bytes_eq}
use Rattle.py_imports.specs.BindingValue.{BindingValue}
use Rattle.isort_find.specs.Key.{Key, key_of, key_eq}
use Rattle.isort_find.specs.KeyText.{key_in}
use Rattle.isort_find.specs.Cursor.{CursorState, keys_of, knows_key}
use Rattle.isort_find.specs.Private.CursorMoves.{Admits}
use Rattle.isort_find.specs.declared.options.ImportKey.{ImportKey}
use Rattle.isort_find.specs.declared.key.KeyText.{KeyText}

same_optional : (a b : Option (String Global)) → option_eq string_eq a b ≡ option_eq bytes_eq (option_map string_bytes a) (option_map string_bytes b)
same_optional None None = refl
same_optional None (Some b) = refl
same_optional (Some a) None = refl
same_optional (Some a) (Some b) = refl

-- what `==` of two texts of keys says
pub text_eq : (a b : KeyText) → string_eq a.text b.text && (option_eq string_eq a.attribute b.attribute && option_eq string_eq a.alias b.alias) ≡ key_eq (key_in a) (key_in b)
text_eq a b = (λ i. bytes_eq (string_bytes a.text) (string_bytes b.text) && (same_optional a.attribute b.attribute i && same_optional a.alias b.alias i))

-- the cursor takes in a key
pub admits : (old : CursorState) (key : ImportKey) (k : KeyText) (b : BindingValue) (is_new : Bool) (after : List Key) → old.options.unique ≡ Some key → key_in k ≡ key_of key b → is_new ≡ not (list_any (key_eq (key_in k)) old.keys) → after ≡ (if is_new then old.keys ++ key_in k ∷ [] else old.keys) → Admits old b is_new (record old { keys = after })
admits old key k b is_new after unique made answer added = record {
  answer = answer ∙ (λ i. not (list_any (key_eq (made i)) old.keys)) ∙ ap (λ u. not (knows_key u old.keys b)) (sym unique);
  same = ap (λ (ks : List Key). record old { keys = ks }) (added ∙ (λ i. if is_new then old.keys ++ made i ∷ [] else old.keys) ∙ (λ i. if is_new then old.keys ++ keys_of (sym unique i) (b ∷ []) else old.keys));
}

-- the key of a binding is known where it is among the keys
pub knows : (unique : Option ImportKey) (key : ImportKey) (keys : List Key) (k : KeyText) (b : BindingValue) → unique ≡ Some key → key_in k ≡ key_of key b → list_any (key_eq (key_in k)) keys ≡ knows_key unique keys b
knows unique key keys k b is made = (λ i. list_any (key_eq (made i)) keys) ∙ ap (λ u. knows_key u keys b) (sym is)
