-- Each statement of a block, as it is written, is one logical line that imports what the statement imports.
use Rattle.std.proofs.Common.{◌≡◌, ℕ, ◌+◌, ◌==◌, zero, suc, Bool, true, false, Option, None, Some, List, [], ◌∷◌, ◌++◌, map, flat_map, replicate, codes, nat_le, if◌then◌else◌, add-one, refl, sym, ap, ◌∙◌, subst, append-nil, append_assoc}
use Rattle.std.specs.List.{Contains, list_all}
use Rattle.std.proofs.lemmas.Bool.{and_from}
use Rattle.std.proofs.lemmas.List.Folds.{list_all-append}
use Rattle.py_lines.specs.Character.{is_space}
use Rattle.py_lines.specs.Piece.{Piece, space}
use Rattle.py_lines.specs.PieceGrammar.{IsLineEnd}
use Rattle.py_imports.specs.Grammar as grammar
use Rattle.py_imports.specs.Grammar.{Terminal, import_word, spelling, modules, IsModule, IsItem, plain, renamed, last, no_dot, AreNames, attribute_of, IsImport, import_statement, Item}
use Rattle.py_imports.specs.Names.{IsAlias, IsModuleName, IsRelativeName}
use Rattle.py_imports.specs.Spelled.{alias_text}
use Rattle.isort_settings.specs.Values.{Values}
use Rattle.isort_sort.specs.LaidAgain.{import_of}
use Rattle.isort_sort.specs.Layout.{Laid, AreLaid, own_text}
use Rattle.isort_sort.specs.Member.{Member}
use Rattle.isort_sort.specs.Statement.{Statement, straight, star, names, single, module_of}
use Rattle.isort_sort.specs.Width.{width}
use Rattle.isort_sort.specs.Wrapping.{IsCut, fits_line, head, four_spaces, remark, in_brackets, hanging, hanging_in_brackets, wrapped, flat, is_wrapped, names_text}
use Rattle.isort_sort.specs.WrittenLine.{AreRemarks, AreReadMembers, IsWritten, EachIsWritten}
use Rattle.isort_sort.proofs.Orders.InOrder.{head_in, tail_in}
use Rattle.isort_sort.proofs.Orders.Statements.{AreOrders}
use Rattle.isort_sort.proofs.SortedTexts.LaidAgain.{laid_at}
use Rattle.isort_sort.proofs.LineLaws.Laws.{Laws}
use Rattle.isort_sort.proofs.WrittenStatements.NamesRests.{HasItem, AreNameItems, AreLines, IsBody, IsPad, flat-body, brackets-body, hanging-body, hung-body}
use Rattle.isort_sort.proofs.WrittenStatements.Rests.{IsRest, after-operator, star-first, remark_said, remark-rest, relative-first, from-rest, alias_terminals, alias-first}
use Rattle.isort_sort.proofs.WrittenStatements.Sources.{IsWritable, laid-writable, remarks-of_statement, cut-lines}
use Rattle.isort_sort.proofs.WrittenStatements.Statements.{written}

-- where a statement is written
record IsPlace (indentation end : List ℕ) : Type 0 where
  spaces : list_all is_space indentation ≡ true
  is_end : IsLineEnd end

-- the text of a statement, as pieces
abbrev Writes : List ℕ → List ℕ → Laid → List ℕ → Type 0
Writes indentation end s text = (pieces : List Piece) × IsWritten indentation end s text pieces

-- what is given of names from a module
record NamesFromModule (s : Laid) (m : List ℕ) : Type 0 where
  is : IsRelativeName m
  same : map (attribute_of m) s.items ≡ map (import_of s.statement) s.items
  remarks : AreRemarks s.comments
  some : HasItem s.items
  items : AreNameItems s.items

-- a `from` statement
from-written : Laws → (indentation end : List ℕ) → IsPlace indentation end → (m : List ℕ) → IsRelativeName m → (s : Laid) → AreRemarks s.comments → {bytes : List ℕ} {terminals : List Terminal} → IsRest space false end bytes terminals (remark_said s.comments) → (is : List Item) → AreNames terminals is → map (attribute_of m) is ≡ map (import_of s.statement) s.items → Writes indentation end s (indentation ++ (head m ++ bytes))
from-written laws indentation end place m r s remarks {bytes = bytes} rest is are same = (
  _,
  written laws indentation end s true _ _ _
      (record {
        spaces = place.spaces;
        is_end = place.is_end;
        remarks = remarks;
        rest = from-rest laws.letters r.path r.is r.names rest;
        imported = subst (IsImport _) (ap (λ n. map (attribute_of n) is) (sym r.spell) ∙ same) (grammar.from_statement _ r.path _ is refl r.is are);
      })
      (ap (λ n. indentation ++ (codes "from " ++ (n ++ (codes " import " ++ bytes)))) (sym r.spell) ∙ ap (λ t. indentation ++ (codes "from " ++ t)) (sym (append_assoc m (codes " import ") bytes))),
)

names-in : Laws → (indentation end : List ℕ) → IsPlace indentation end → (m : List ℕ) (s : Laid) → NamesFromModule s m → (bytes : List ℕ) (is : List Item) → is ≡ s.items → IsBody end bytes is s.comments → Writes indentation end s (indentation ++ (head m ++ bytes))
names-in laws indentation end place m s n bytes is e b =
    from-written laws indentation end place m n.is s n.remarks b.rest is b.names (ap (map (attribute_of m)) e ∙ n.same)

-- space before the names of a line
spaces-many : (n : ℕ) → list_all is_space (replicate n 32) ≡ true
unfolding is_space
spaces-many zero = refl
spaces-many (suc n) = spaces-many n

pad-of : (indentation : List ℕ) (c : ℕ) (cs : List ℕ) → list_all is_space indentation ≡ true → list_all is_space (c ∷ cs) ≡ true → IsPad (indentation ++ c ∷ cs)
pad-of [] c cs h k = record { first = c; others = cs; is = refl; spaces = k }
pad-of (d ∷ ds) c cs h k = record { first = d; others = ds ++ c ∷ cs; is = refl; spaces = list_all-append is_space (d ∷ ds) (c ∷ cs) ∙ and_from _ _ h k }

pub four-pad : (indentation : List ℕ) → list_all is_space indentation ≡ true → IsPad (indentation ++ four_spaces)
unfolding is_space
four-pad indentation h = pad-of indentation 32 (32 ∷ 32 ∷ 32 ∷ []) h refl

pub many-pad : (indentation : List ℕ) (n : ℕ) → list_all is_space indentation ≡ true → IsPad (indentation ++ replicate (n + 1) 32)
many-pad indentation n h = subst (λ k. IsPad (indentation ++ replicate k 32)) (sym (add-one n)) (pad-of indentation 32 (replicate n 32) h (spaces-many (suc n)))

-- names in the layout that the settings ask for
wrapped-written : Laws → (v : Values) (indentation end : List ℕ) → IsPlace indentation end → (m : List ℕ) (s : Laid) → NamesFromModule s m → (line : List Item) (lines : List (List Item)) → AreLines (line ∷ lines) → flat_map (λ (l : List Item). l) (line ∷ lines) ≡ s.items → Writes indentation end s (wrapped v indentation end m (remark s.comments) (line ∷ lines))
wrapped-written laws v indentation end place m s n line lines each cut = by (nat_le v.multi_line_output 1) (v.multi_line_output == 2)
  where
    in_this : {bytes : List ℕ} → IsBody end bytes (flat_map (λ (l : List Item). l) (line ∷ lines)) s.comments → Writes indentation end s (indentation ++ (head m ++ bytes))
    in_this b = names-in laws indentation end place m s n _ _ cut b

    by : (a b : Bool) → Writes indentation end s (if a then in_brackets v indentation end m (remark s.comments) (line ∷ lines) else (if b then hanging indentation end m (remark s.comments) (line ∷ lines) else hanging_in_brackets v indentation end m (remark s.comments) (line ∷ lines)))
    by true b = in_this (brackets-body laws.letters end _ place.is_end (many-pad indentation (width (head m)) place.spaces) line lines each v.include_trailing_comma s.comments n.remarks)
    by false true = in_this (hanging-body laws.letters end _ place.is_end (four-pad indentation place.spaces) line lines each s.comments n.remarks)
    by false false = in_this (hung-body laws.letters end _ indentation place.is_end (four-pad indentation place.spaces) place.spaces line lines each v.include_trailing_comma s.comments n.remarks)

names-written : Laws → (v : Values) (indentation end : List ℕ) → IsPlace indentation end → (m : List ℕ) (s : Laid) → NamesFromModule s m → (cut : List (List Item)) → AreLines cut → flat_map (λ (l : List Item). l) cut ≡ s.items → Writes indentation end s (names_text v indentation end m (remark s.comments) s.items cut)
names-written laws v indentation end place m s n [] each cut = absurd (subst HasItem (sym cut) n.some)
names-written laws v indentation end place m s n (line ∷ lines) each cut = by (is_wrapped v indentation m (remark s.comments) s.items)
  where
    by : (a : Bool) → Writes indentation end s (if a then wrapped v indentation end m (remark s.comments) (line ∷ lines) else flat indentation m (remark s.comments) s.items)
    by true = wrapped-written laws v indentation end place m s n line lines each cut
    by false = names-in laws indentation end place m s n _ s.items refl (flat-body laws.letters end s.items n.some n.items s.comments n.remarks)

-- a statement with these parts
abbrev pub laid_with : Statement → List Item → List (List Item) → List (List ℕ) → List (List ℕ) → Laid
laid_with st items cut comments above = record { statement = st; items = items; cut = cut; comments = comments; above = above }

abbrev WritesIt : Values → List ℕ → List ℕ → Laid → Type 0
WritesIt v indentation end s = Writes indentation end s (own_text v indentation end s)

-- `import MODULE`, with an alias
module-item : (path : List Terminal) → IsModule path → (a : Option (List ℕ)) → IsItem modules (path ++ (alias_terminals a ++ [])) (record { path = spelling path; alias = a })
module-item path m None = subst (λ ts. IsItem modules ts (record { path = spelling path; alias = None })) (sym (append-nil path)) (plain modules path _ m refl)
module-item path m (Some a) = renamed modules _ path a _ refl m refl

straight-written : Laws → (v : Values) (indentation end : List ℕ) → IsPlace indentation end → (m : List ℕ) → IsModuleName m → (alias : Option (List ℕ)) → IsAlias alias → (i : Item) (items : List Item) → items ≡ i ∷ [] → (cut : List (List Item)) (comments above : List (List ℕ)) → AreRemarks comments → WritesIt v indentation end (laid_with (straight m alias) items cut comments above)
straight-written laws v indentation end place m named alias is_alias i items one cut comments above remarks =
    let s = laid_with (straight m alias) items cut comments above in
    let path = named.path in
    let imported : record { module_name = spelling path; attribute_name = None; alias_name = alias } ∷ [] ≡ map (import_of s.statement) items =
    ap (λ n. record { module_name = n; attribute_name = None; alias_name = alias } ∷ []) (sym named.spell) ∙ sym (ap (map (import_of s.statement)) one) in (
      _,
      written laws indentation end s false _ (path ++ (alias_terminals alias ++ [])) _
          (record {
            spaces = place.spaces;
            is_end = place.is_end;
            remarks = remarks;
            rest = relative-first path (grammar.named path [] path refl no_dot named.is) named.names (alias-first laws.letters alias is_alias (remark-rest comments remarks));
            imported = subst (IsImport (import_word ∷ (path ++ (alias_terminals alias ++ [])))) imported (import_statement _ _ (last modules _ _ (module-item path named.is alias)));
          })
          (ap (λ n. indentation ++ (codes "import " ++ (n ++ (alias_text alias ++ remark comments)))) (sym named.spell)),
    )

statement-written : Laws → (v : Values) (indentation end : List ℕ) → IsPlace indentation end → (st : Statement) (items : List Item) (cut : List (List Item)) (comments above : List (List ℕ)) → AreRemarks comments → IsWritable st items → IsCut (fits_line v indentation (module_of st)) items cut → WritesIt v indentation end (laid_with st items cut comments above)
statement-written laws v indentation end place (straight m alias) items cut comments above remarks w c = straight-written laws v indentation end place m w.0 alias w.1 w.2.0 items w.2.1 cut comments above remarks
statement-written laws v indentation end place (star m) items cut comments above remarks w c =
    let s = laid_with (star m) items cut comments above in
    from-written laws indentation end place m w.0 s remarks (star-first (after-operator (remark-rest comments remarks))) (record { path = codes "*"; alias = None } ∷ []) grammar.all_names (sym (ap (map (import_of s.statement)) w.1.1))
statement-written laws v indentation end place (names m) items cut comments above remarks w c =
    names-written laws v indentation end place m (laid_with (names m) items cut comments above)
    (record { is = w.0.from; same = refl; remarks = remarks; some = w.1; items = w.0.named }) cut (cut-lines (fits_line v indentation m) items cut c w.0.named) c.all
statement-written laws v indentation end place (single m j) items cut comments above remarks w c =
    names-written laws v indentation end place m (laid_with (single m j) items cut comments above)
    (record { is = w.0.from; same = refl; remarks = remarks; some = w.1; items = w.0.named }) cut (cut-lines (fits_line v indentation m) items cut c w.0.named) c.all

-- all statements of a block
pub statements-written : Laws → (v : Values) → AreOrders v → (indentation end : List ℕ) (members : List Member) (laid : List Laid) → list_all is_space indentation ≡ true → IsLineEnd end → AreReadMembers members → AreLaid v indentation members laid → EachIsWritten v indentation end laid
statements-written laws v o indentation end members laid spaces is_end read is = each laid (λ s h. h)
  where
    one : (s : Laid) → Contains laid s → WritesIt v indentation end s
    one s h =
        let own = laid_at v indentation members laid s is.each h in
        statement-written laws v indentation end (record { spaces = spaces; is_end = is_end }) s.statement s.items s.cut s.comments s.above
        (subst AreRemarks (sym own.comments) (remarks-of_statement v s.statement members read)) (laid-writable v o indentation members laid s read is h) own.cut

    each : (ls : List Laid) → ((s : Laid) → Contains ls s → Contains laid s) → EachIsWritten v indentation end ls
    each [] inside = tt
    each (l ∷ ls) inside = (one l (inside l (head_in l ls)), each ls (λ s h. inside s (tail_in l ls s h)))
