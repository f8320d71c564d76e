-- The first line of a block ends as the block's lines do.
use Rattle.std.proofs.Common.{◌≡◌, ℕ, Bool, true, false, ◌||◌, inl, inr, ◌+◌, Option, None, Some, List, [], ◌∷◌, ◌++◌, flat_map, codes, refl, sym, ap, ◌∙◌, subst, append_assoc, arith}
use Rattle.std.specs.Prelude.{nat_le, replicate, ◌==◌, if◌then◌else◌}
use Rattle.std.specs.List.{list_any, list_all, join_by}
use Rattle.std.proofs.lemmas.Bool.{and_parts, or_parts}
use Rattle.std.proofs.lemmas.Bool.Decides.{nat_tests}
use Rattle.py_lines.specs.Character.{is_space, is_break, is_hash}
use Rattle.py_imports.specs.Grammar.{Terminal, name, Item, spelling}
use Rattle.py_imports.specs.Names.{IsName, HaveNames, IsModuleName, IsRelativeName, IsAlias, IsNameItem}
use Rattle.py_imports.specs.Spelled.{alias_text}
use Rattle.isort_settings.specs.Values.{Values}
use Rattle.isort_sort.specs.Layout.{Laid, AreLaid, own_text}
use Rattle.isort_sort.specs.Member.{Member}
use Rattle.isort_sort.specs.Statement.{Statement, straight, names, single, module_of}
use Rattle.isort_sort.specs.Statement.{star as all_of}
use Rattle.isort_sort.specs.Width.{width}
use Rattle.isort_sort.specs.Wrapping.{item_text, items_text, head, four_spaces, remark, trailing_comma, in_brackets, hanging, hanging_in_brackets, flat, is_wrapped, names_text, statement_text, fits_line, IsCut}
use Rattle.isort_sort.specs.WrittenLine.{IsRemark, AreRemarks, AreReadMembers}
use Rattle.isort_sort.proofs.Orders.InOrder.{head_in}
use Rattle.isort_sort.proofs.Orders.Statements.{AreOrders}
use Rattle.isort_sort.proofs.WrittenStatements.NamesRests.{AreNameItems, AreLines, IsPad}
use Rattle.isort_sort.proofs.WrittenStatements.Written.{four-pad, many-pad}
use Rattle.isort_sort.proofs.LineLaws.Joined.{none-append}
use Rattle.isort_sort.proofs.WrittenLines.LineUnits.{AreAbove}
use Rattle.isort_sort.proofs.WrittenLines.FirstCharacters.{WordsLaw}
use Rattle.isort_sort.proofs.WrittenLines.FirstEnds.{is_end_byte, IsFirstLine}
use Rattle.isort_sort.proofs.WrittenStatements.Sources.{IsWritable, laid-writable, cut-lines, remarks-of_statement}
use Rattle.isort_sort.proofs.ReadMembers.Stripped.{unbroken_bytes}
use Rattle.isort_sort.proofs.ReadMembers.ReadMembers.{AreFine, read_members, owned_above}
use Rattle.isort_sort.proofs.SortedAgain.WrittenBlocks.{line_above, first_line}

-- a text without line ends
abbrev IsUnbroken : List ℕ → Type 0
IsUnbroken t = list_any is_end_byte t ≡ false

joins : (a b : List ℕ) → IsUnbroken a → IsUnbroken b → IsUnbroken (a ++ b)
joins a b h k = none-append is_end_byte a b h k

joins_by : {X : Type 0} (f : X → List ℕ) (sep : List ℕ) (x : X) (xs : List X) → IsUnbroken sep → IsUnbroken (f x) → IsUnbroken (flat_map (λ y. sep ++ f y) xs) → IsUnbroken (join_by f sep (x ∷ xs))
joins_by f sep x xs s h k = joins (f x) (flat_map (λ y. sep ++ f y) xs) h k

-- names, modules and items
unbroken_name : WordsLaw → (b : List ℕ) → IsName b → IsUnbroken b
unbroken_name law b h = subst IsUnbroken h.spell (unbroken_bytes h.characters (law h.characters h.word))

unbroken_path : WordsLaw → (ts : List Terminal) → HaveNames ts → IsUnbroken (spelling ts)
unbroken_path law [] h = refl
unbroken_path law (name w ∷ ts) h = joins w (spelling ts) (unbroken_name law w h.0) (unbroken_path law ts h.1)
unbroken_path law (_ ∷ ts) h = unbroken_path law ts h.1

unbroken_module : WordsLaw → (m : List ℕ) → IsModuleName m → IsUnbroken m
unbroken_module law m h = subst IsUnbroken (sym h.spell) (unbroken_path law h.path h.names)

unbroken_relative : WordsLaw → (m : List ℕ) → IsRelativeName m → IsUnbroken m
unbroken_relative law m h = subst IsUnbroken (sym h.spell) (unbroken_path law h.path h.names)

unbroken_alias : WordsLaw → (a : Option (List ℕ)) → IsAlias a → IsUnbroken (alias_text a)
unbroken_alias law None h = refl
unbroken_alias law (Some a) h = joins (codes " as ") a refl (unbroken_name law a h)

unbroken_item : WordsLaw → (i : Item) → IsNameItem i → IsUnbroken (item_text i)
unbroken_item law i h = joins i.path (alias_text i.alias) (unbroken_name law i.path h.path) (unbroken_alias law i.alias h.alias)

unbroken_more : WordsLaw → (is : List Item) → AreNameItems is → IsUnbroken (flat_map (λ i. codes ", " ++ item_text i) is)
unbroken_more law [] h = refl
unbroken_more law (i ∷ is) h = joins (codes ", " ++ item_text i) (flat_map (λ j. codes ", " ++ item_text j) is) (unbroken_item law i h.0) (unbroken_more law is h.1)

unbroken_items : WordsLaw → (is : List Item) → AreNameItems is → IsUnbroken (items_text is)
unbroken_items law [] h = refl
unbroken_items law (i ∷ is) h = joins_by item_text (codes ", ") i is refl (unbroken_item law i h.0) (unbroken_more law is h.1)

-- the joined comment
unbroken_remark : (c : List ℕ) → IsRemark c → IsUnbroken c
unbroken_remark c h = subst IsUnbroken h.spell (unbroken_bytes h.characters h.unbroken)

unbroken_others : (cs : List (List ℕ)) → AreRemarks cs → IsUnbroken (flat_map (λ t. codes "; " ++ t) cs)
unbroken_others [] h = refl
unbroken_others (c ∷ cs) h = joins (codes "; " ++ c) (flat_map (λ t. codes "; " ++ t) cs) (unbroken_remark c h.0) (unbroken_others cs h.1)

unbroken_joined : (cs : List (List ℕ)) → AreRemarks cs → IsUnbroken (remark cs)
unbroken_joined [] h = refl
unbroken_joined (c ∷ cs) h = joins_by (λ (t : List ℕ). t) (codes "; ") c cs refl (unbroken_remark c h.0) (unbroken_others cs h.1)

-- indentation and heads
space_whole : (b : ℕ) → is_space b ≡ true → is_end_byte b ≡ false
unfolding is_space
space_whole b k = grind (arith, nat_tests)

unbroken_spaces : (t : List ℕ) → list_all is_space t ≡ true → IsUnbroken t
unbroken_spaces [] h = refl
unbroken_spaces (c ∷ cs) h =
    let parts = and_parts (is_space c) (list_all is_space cs) h in
    λ i. space_whole c parts.0 i || unbroken_spaces cs parts.1 i

unbroken_head : (m : List ℕ) → IsUnbroken m → IsUnbroken (head m)
unbroken_head m h = joins m (codes " import ") h refl

unbroken_comma : (v : Values) → IsUnbroken (trailing_comma v)
unbroken_comma v = by v.include_trailing_comma
  where
    by : (b : Bool) → IsUnbroken (if b then codes "," else [])
    by true = refl
    by false = refl

-- comments above
hash_whole : (b : ℕ) → is_hash b ≡ true → is_break b ≡ false
unfolding is_hash is_break
hash_whole b k = grind (arith, nat_tests)

unbroken_comment : (c : List ℕ) (cs : List (List ℕ)) → AreAbove (c ∷ cs) → IsUnbroken c
unbroken_comment c cs h =
    let is = h.0.is in
    subst IsUnbroken (sym h.0.spell) (unbroken_bytes h.0.characters (ap (list_any is_break) is.2 ∙ (λ j. hash_whole is.0 is.3 j || is.4 j)))

-- a line end after such a text, before space
breaks : (t : List ℕ → List ℕ) (a end pad rest : List ℕ) → t end ≡ a ++ (end ++ (pad ++ rest)) → IsUnbroken a → IsPad pad → IsFirstLine end t
breaks t a end pad rest is whole p =
    inl (record {
      before = a;
      next = p.first;
      rest = p.others ++ rest;
      is = is ∙ ap (λ (x : List ℕ). a ++ (end ++ (x ++ rest))) p.is;
      whole = whole;
      apart = (or_parts (p.first == 10) (p.first == 13) (space_whole p.first (and_parts _ _ (ap (list_all is_space) (sym p.is) ∙ p.spaces)).0)).0;
    })

-- names in a wrapped statement
regroup_brackets : (i h o l e n m more r : List ℕ) → i ++ (h ++ (o ++ ((l ++ (((44 ∷ (e ++ n)) ++ m) ++ more)) ++ r))) ≡ (i ++ (h ++ (o ++ (l ++ (44 ∷ []))))) ++ (e ++ (n ++ ((m ++ more) ++ r)))
regroup_brackets i h o l e n m more r = simp append_assoc

first_brackets : WordsLaw → (v : Values) (indentation end m comment : List ℕ) (cut : List (List Item)) → list_all is_space indentation ≡ true → IsUnbroken m → IsUnbroken comment → AreLines cut → IsFirstLine end (λ e. in_brackets v indentation e m comment cut)
first_brackets law v indentation end m comment [] i h c ls =
    inr (joins indentation _ (unbroken_spaces indentation i) (joins (head m) _ (unbroken_head m h) (joins (trailing_comma v) (codes ")" ++ comment) (unbroken_comma v) c)), (λ e. refl))
first_brackets law v indentation end m comment (l ∷ []) i h c ls =
    inr (joins indentation _ (unbroken_spaces indentation i) (joins (head m) _ (unbroken_head m h) (joins (items_text l ++ []) _ (joins (items_text l) [] (unbroken_items law l ls.1) refl) (joins (trailing_comma v) (codes ")" ++ comment) (unbroken_comma v) c))), (λ e. refl))
first_brackets law v indentation end m comment (l ∷ k ∷ ks) i h c ls =
    breaks (λ e. in_brackets v indentation e m comment (l ∷ k ∷ ks)) (indentation ++ (head m ++ (codes "(" ++ (items_text l ++ codes ",")))) end (indentation ++ replicate (width (head m) + 1) 32) _
    (regroup_brackets indentation (head m) (codes "(") (items_text l) end (indentation ++ replicate (width (head m) + 1) 32) (items_text k) _ _)
    (joins indentation _ (unbroken_spaces indentation i) (joins (head m) _ (unbroken_head m h) (joins (items_text l) (codes ",") (unbroken_items law l ls.1) refl)))
    (many-pad indentation (width (head m)) i)

first_names : WordsLaw → (v : Values) (indentation end m comment : List ℕ) (items : List Item) (cut : List (List Item)) → list_all is_space indentation ≡ true → IsUnbroken m → IsUnbroken comment → AreNameItems items → AreLines cut → IsFirstLine end (λ e. names_text v indentation e m comment items cut)
first_names law v indentation end m comment items cut i h c t ls = by (is_wrapped v indentation m comment items) (nat_le v.multi_line_output 1) (v.multi_line_output == 2)
  where
    spaces : IsUnbroken indentation
    spaces = unbroken_spaces indentation i

    by : (w a b : Bool) → IsFirstLine end (λ e. if w then (if a then in_brackets v indentation e m comment cut else (if b then hanging indentation e m comment cut else hanging_in_brackets v indentation e m comment cut)) else flat indentation m comment items)
    by false a b = inr (joins indentation (head m ++ (items_text items ++ comment)) spaces (joins (head m) (items_text items ++ comment) (unbroken_head m h) (joins (items_text items) comment (unbroken_items law items t) c)), (λ e. refl))
    by true true b = first_brackets law v indentation end m comment cut i h c ls
    by true false true =
        breaks (λ e. hanging indentation e m comment cut) (indentation ++ (head m ++ (92 ∷ []))) end (indentation ++ four_spaces)
        (join_by items_text (codes ", " ++ 92 ∷ (end ++ (indentation ++ four_spaces))) cut ++ comment) (simp append_assoc)
        (joins indentation (head m ++ (92 ∷ [])) spaces (joins (head m) (92 ∷ []) (unbroken_head m h) refl)) (four-pad indentation i)
    by true false false =
        breaks (λ e. hanging_in_brackets v indentation e m comment cut) (indentation ++ (head m ++ (codes "(" ++ comment))) end (indentation ++ four_spaces)
        (join_by items_text (codes "," ++ (end ++ (indentation ++ four_spaces))) cut ++ (trailing_comma v ++ (end ++ (indentation ++ codes ")")))) (simp append_assoc)
        (joins indentation (head m ++ (codes "(" ++ comment)) spaces (joins (head m) (codes "(" ++ comment) (unbroken_head m h) c)) (four-pad indentation i)

first_statement : WordsLaw → (v : Values) (indentation end : List ℕ) (s : Laid) → list_all is_space indentation ≡ true → IsWritable s.statement s.items → IsCut (fits_line v indentation (module_of s.statement)) s.items s.cut → AreRemarks s.comments → IsFirstLine end (λ e. own_text v indentation e s)
first_statement law v indentation end s i w is r = by s.statement w is
  where
    comment : List ℕ
    comment = remark s.comments

    c : IsUnbroken comment
    c = unbroken_joined s.comments r

    spaces : IsUnbroken indentation
    spaces = unbroken_spaces indentation i

    by : (st : Statement) → IsWritable st s.items → IsCut (fits_line v indentation (module_of st)) s.items s.cut → IsFirstLine end (λ e. statement_text v indentation e st comment s.items s.cut)
    by (straight m alias) k cut = inr (joins indentation (codes "import " ++ (m ++ (alias_text alias ++ comment))) spaces (joins m (alias_text alias ++ comment) (unbroken_module law m k.0) (joins (alias_text alias) comment (unbroken_alias law alias k.1) c)), (λ e. refl))
    by (all_of m) k cut = inr (joins indentation (head m ++ (codes "*" ++ comment)) spaces (joins (head m) (codes "*" ++ comment) (unbroken_head m (unbroken_relative law m k.0)) c), (λ e. refl))
    by (names m) k cut = first_names law v indentation end m comment s.items s.cut i (unbroken_relative law m k.0.from) c k.0.named (cut-lines (fits_line v indentation m) s.items s.cut cut k.0.named)
    by (single m j) k cut = first_names law v indentation end m comment s.items s.cut i (unbroken_relative law m k.0.from) c k.0.named (cut-lines (fits_line v indentation m) s.items s.cut cut k.0.named)

pub first_of_block : WordsLaw → (v : Values) → AreOrders v → (indentation end : List ℕ) (members : List Member) (s : Laid) (ss : List Laid) → list_all is_space indentation ≡ true → AreFine members → AreLaid v indentation members (s ∷ ss) → IsFirstLine end (λ e. first_line v indentation e (s ∷ ss))
first_of_block law v o indentation end members s ss spaces fine is = by s.above (subst AreAbove (sym is.each.0.above) (owned_above v s.statement members fine))
  where
    read : AreReadMembers members
    read = read_members members fine

    by : (above : List (List ℕ)) → AreAbove above → IsFirstLine end (λ e. line_above indentation above (own_text v indentation e s))
    by [] h =
        first_statement law v indentation end s spaces (laid-writable v o indentation members (s ∷ ss) s read is (head_in s ss)) is.each.0.cut
        (subst AreRemarks (sym is.each.0.comments) (remarks-of_statement v s.statement members read))
    by (c ∷ cs) h = inr (joins indentation c (unbroken_spaces indentation spaces) (unbroken_comment c cs h), (λ e. refl))
