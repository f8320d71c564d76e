-- A comment that is joined and written is read back as it was.
use Rattle.std.proofs.Common.{◌≡◌, ℕ, Bool, true, false, cond, ◌&&◌, List, [], ◌∷◌, ◌++◌, map, flat_map, codes, refl, sym, ap, ◌∙◌, subst, append_assoc, append-nil}
use Rattle.std.specs.Prelude.{filter}
use Rattle.std.specs.List.{join_by, list_all}
use Rattle.py_lines.specs.Character.{is_space}
use Rattle.py_lines.specs.LogicalLine.{LogicalLine}
use Rattle.isort_sort.specs.Line.{without_start, without_end, stripped, without_hash, is_text, comment_texts, own_comments, IsOwnComment, AreOwnComments}
use Rattle.std.proofs.Math.Bool.{and-false}

-- a text that neither begins nor ends with space, and isn't empty
abbrev IsBare : List ℕ → Type 0
IsBare [] = ⊥
IsBare (b ∷ text) = (is_space b ≡ false) × (without_end (b ∷ text) ≡ b ∷ text)

abbrev IsBareOrEmpty : List ℕ → Type 0
IsBareOrEmpty [] = Unit {0}
IsBareOrEmpty (b ∷ text) = IsBare (b ∷ text)

-- it doesn't begin with space
abbrev BeginsBare : List ℕ → Type 0
BeginsBare [] = Unit {0}
BeginsBare (b ∷ text) = is_space b ≡ false

-- what is bare stays as it is, after a space too
bare_stays : (t : List ℕ) → IsBare t → stripped t ≡ t
bare_stays [] h = absurd h
bare_stays (b ∷ text) h = ap (λ x. without_end (cond x (without_start text) (b ∷ text))) h.0 ∙ h.1

after_space : (t : List ℕ) → IsBare t → stripped (32 ∷ t) ≡ t
unfolding is_space
after_space t h = bare_stays t h

-- what ends bare isn't all space
ends_bare : (b : ℕ) (text : List ℕ) → without_end (b ∷ text) ≡ b ∷ text → list_all is_space (b ∷ text) ≡ false
ends_bare b text e = by (list_all is_space (b ∷ text)) e
  where
    by : (x : Bool) → cond x [] (b ∷ without_end text) ≡ b ∷ text → x ≡ false
    by true k = absurd (cc)
    by false k = refl

all_of : (xs : List ℕ) (b : ℕ) (text : List ℕ) → list_all is_space (b ∷ text) ≡ false → list_all is_space (xs ++ b ∷ text) ≡ false
all_of [] b text h = h
all_of (x ∷ xs) b text h = ap (λ y. is_space x && y) (all_of xs b text h) ∙ and-false (is_space x)

end_after : (xs : List ℕ) (b : ℕ) (text : List ℕ) → without_end (b ∷ text) ≡ b ∷ text → without_end (xs ++ b ∷ text) ≡ xs ++ b ∷ text
end_after [] b text e = e
end_after (x ∷ xs) b text e = ap (λ y. cond y [] (x ∷ without_end (xs ++ b ∷ text))) (all_of (x ∷ xs) b text (ends_bare b text e)) ∙ ap (λ l. x ∷ l) (end_after xs b text e)

-- two bare texts with anything between them are bare
joined_bare : (a between c : List ℕ) → IsBare a → IsBare c → IsBare (a ++ (between ++ c))
joined_bare [] between c h k = absurd h
joined_bare (b ∷ a) between [] h k = absurd k
joined_bare (b ∷ a) between (d ∷ c) h k = (h.0, ap (without_end) (sym (append_assoc (b ∷ a) between (d ∷ c))) ∙ end_after (b ∷ a ++ between) d c k.1 ∙ append_assoc (b ∷ a) between (d ∷ c))

-- what isn't all space has some left
some_left : (t : List ℕ) → list_all is_space t ≡ false → list_all is_space (without_end t) ≡ false
some_left [] h = h
some_left (c ∷ cs) h = ap (λ y. list_all is_space (cond y [] (c ∷ without_end cs))) h ∙ by (is_space c) h (some_left cs)
  where
    by : (x : Bool) → x && list_all is_space cs ≡ false → (list_all is_space cs ≡ false → list_all is_space (without_end cs) ≡ false) → x && list_all is_space (without_end cs) ≡ false
    by true k more = more k
    by false k more = refl

-- what was stripped at its end stays so
end_again : (t : List ℕ) → without_end (without_end t) ≡ without_end t
end_again [] = refl
end_again (b ∷ text) = by (list_all is_space (b ∷ text)) refl (end_again text)
  where
    kept : list_all is_space (b ∷ text) ≡ false → list_all is_space (b ∷ without_end text) ≡ false
    kept e = sym (ap (λ y. list_all is_space (cond y [] (b ∷ without_end text))) e) ∙ some_left (b ∷ text) e

    by : (x : Bool) → list_all is_space (b ∷ text) ≡ x → without_end (without_end text) ≡ without_end text → without_end (cond x [] (b ∷ without_end text)) ≡ cond x [] (b ∷ without_end text)
    by true e h = refl
    by false e h = ap (λ y. cond y [] (b ∷ without_end (without_end text))) (kept e) ∙ ap (λ l. b ∷ l) h

start_bare : (t : List ℕ) → BeginsBare (without_start t)
start_bare [] = tt
start_bare (b ∷ text) = by (is_space b) refl (start_bare text)
  where
    by : (x : Bool) → is_space b ≡ x → BeginsBare (without_start text) → BeginsBare (cond x (without_start text) (b ∷ text))
    by true e h = h
    by false e h = e

-- what was stripped is empty or bare
stripped_bare : (t : List ℕ) → IsBareOrEmpty (stripped t)
stripped_bare t = of (without_start t) (start_bare t)
  where
    of : (u : List ℕ) → BeginsBare u → IsBareOrEmpty (without_end u)
    of [] h = tt
    of (b ∷ text) h = by (list_all is_space (b ∷ text)) (end_again (b ∷ text))
      where
        by : (x : Bool) → without_end (cond x [] (b ∷ without_end text)) ≡ cond x [] (b ∷ without_end text) → IsBareOrEmpty (cond x [] (b ∷ without_end text))
        by true e = tt
        by false e = (h, e)

-- the comments of a line are bare
bare_of : (t : List ℕ) → IsBareOrEmpty t → is_text t ≡ true → IsBare t
bare_of [] h k = absurd (cc)
bare_of (b ∷ text) h k = h

own_bare : (t : List ℕ) → IsOwnComment t → IsBare t
own_bare t own = bare_of t (subst IsBareOrEmpty own.1 (stripped_bare t)) own.0

own_of : (ts : List (List ℕ)) → AreOwnComments (filter is_text (map (λ t. stripped (without_hash t)) ts))
own_of [] = tt
own_of (t ∷ ts) = by (is_text (stripped (without_hash t))) refl (own_of ts)
  where
    rest : List (List ℕ)
    rest = filter is_text (map (λ u. stripped (without_hash u)) ts)

    by : (x : Bool) → is_text (stripped (without_hash t)) ≡ x → AreOwnComments rest → AreOwnComments (cond x (stripped (without_hash t) ∷ rest) rest)
    by true e others = ((e, bare_stays (stripped (without_hash t)) (bare_of (stripped (without_hash t)) (stripped_bare (without_hash t)) e)), others)
    by false e others = others

pub own_comments_bare : (line : LogicalLine) → AreOwnComments (own_comments line)
own_comments_bare line = own_of (comment_texts line)

-- comments with `; ` between them are bare
all_bare : (c : List ℕ) (cs : List (List ℕ)) → IsBare c → AreOwnComments cs → IsBare (c ++ flat_map (λ (t : List ℕ). codes "; " ++ t) cs)
all_bare c [] h own = subst IsBare (sym (append-nil c)) h
all_bare c (d ∷ ds) h own =
    subst (λ (t : List ℕ). IsBare (c ++ t)) (sym (append_assoc (codes "; ") d (flat_map (λ (t : List ℕ). codes "; " ++ t) ds)))
    (joined_bare c (codes "; ") (d ++ flat_map (λ (t : List ℕ). codes "; " ++ t) ds) h (all_bare d ds (own_bare d own.0) own.1))

pub joined_read_back : (c : List ℕ) (cs : List (List ℕ)) → AreOwnComments (c ∷ cs) → stripped (without_hash (codes "# " ++ join_by (λ (t : List ℕ). t) (codes "; ") (c ∷ cs))) ≡ join_by (λ (t : List ℕ). t) (codes "; ") (c ∷ cs)
joined_read_back c cs own = after_space (join_by (λ (t : List ℕ). t) (codes "; ") (c ∷ cs)) (all_bare c cs (own_bare c own.0) own.1)
