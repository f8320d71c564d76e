-- Records, one after another.
use Rattle.std.proofs.Common.{◌≡◌, ℕ, ◌+◌, ◌<◌, List, [], ◌∷◌, ◌++◌, length, map, take, get_or, sym, ap, ◌∙◌}
use Rattle.std.proofs.lemmas.List.{append_assoc, append-nil, map_more}
use Rattle.isort_c.specs.Records.{text_record, name_records}

pub names_more : (names : List (List ℕ)) (name : List ℕ) → name_records (names ++ name ∷ []) ≡ name_records names ++ text_record name
names_more [] name = append-nil (text_record name)
names_more (a ∷ names) name = ap (λ xs. text_record a ++ xs) (names_more names name) ∙ sym (append_assoc (text_record a) (name_records names) (text_record name))

-- the records of one name more
pub names_next : {X : Type 0} (f : X → List ℕ) (xs : List X) (i : ℕ) (d : X) (before after : List ℕ) → i < length xs → before ≡ name_records (map f (take i xs)) → after ≡ before ++ text_record (f (get_or xs i d)) → after ≡ name_records (map f (take (i + 1) xs))
names_next f xs i d before after within was is = is ∙ ap (λ b. b ++ text_record (f (get_or xs i d))) was ∙ sym (ap name_records (map_more f xs i d within) ∙ names_more (map f (take i xs)) (f (get_or xs i d)))
