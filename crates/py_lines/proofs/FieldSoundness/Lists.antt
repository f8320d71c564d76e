-- One more piece in the innermost list.
use Rattle.py_lines.proofs.Prelude.{◌≡◌, ◌==◌, ℕ, ◌+◌, true, false, ◌&&◌, Option, None, Some, List, [], ◌∷◌, ◌++◌, length, refl, sym, ap, ◌∙◌, subst, ◌⊎◌, ⊎_elim, append_assoc, append-nil, and_left, both_ways, piece}
use Rattle.py_lines.specs.Piece.{Class, string, operator, Piece, is_mark_class, begins_marked, spelled}
use Rattle.py_lines.specs.PieceGrammar.{InClassIn, MayPrecedeIn, AreReadIn}
use Rattle.py_lines.specs.Balance.{is_opener, is_closer, depth_after, depth_through}
use Rattle.py_lines.specs.Fields.{is_colon, HasNoColon, Fields, fielded}
use Rattle.py_lines.specs.FieldStrings.{Place, literal, specification, begins_open, with_fields}
use Rattle.py_lines.specs.Private.Mode as modes
use Rattle.py_lines.specs.Private.FieldMachine.{text_place, before, FieldMode, plain, Level, FieldScanned, field_state, field_fresh, levels_open}
use Rattle.py_lines.proofs.Pieces.PieceLists.{spelled-push, AreReadIn-push, MayFollow, follows_any}
use Rattle.py_lines.proofs.Fields.Nesting.{class_map}
use Rattle.py_lines.proofs.FieldSoundness.OpenLists.{Opens, opens-none, opens-other, opens-depth}
use Rattle.py_lines.proofs.FieldSoundness.Holds.{Limit, HoldsMode, HoldsList, IsSingle, HoldsLevels, Stands, AtStart, IsFieldSound}

abbrev pub FieldSoundIf : Limit → Option FieldScanned → List ℕ → Type 0
FieldSoundIf limit None read = Unit {0}
FieldSoundIf limit (Some s) read = IsFieldSound limit s read

-- no code is in a specification
pub not_specification : {A : Type 0} → literal ≡ specification → A
not_specification h = absurd (cc)

-- a list that has begun
pub no_pieces : (limit : Limit) (place : Place) (outer : List Level) (held : List ℕ) → HoldsList limit outer place [] [] held
no_pieces limit place outer held = record { fit = λ more. tt; opens = opens-none; passes = limit.none_at (levels_open outer); in_field = λ l ls at. (refl, tt); no_list = λ at. (refl, refl) }

-- the machine is sound where it stands so
pub sound_in : (limit : Limit) (outer : List Level) (done : List Piece) (openers : List ℕ) (m : FieldMode) (held read : List ℕ) → Stands limit (text_place m) outer done openers held read → HoldsMode limit outer (length openers + levels_open outer) m held → AtStart m outer done → IsFieldSound limit (field_state outer done openers m held) read
sound_in limit outer done openers m held read stands holds start = record { spell = stands.spell; mode = holds; list = stands.list; levels = stands.levels; start = start }

pub stands_at : (limit : Limit) (outer : List Level) (done : List Piece) (openers : List ℕ) (m : FieldMode) (held read : List ℕ) (place : Place) → IsFieldSound limit (field_state outer done openers m held) read → text_place m ≡ place → Stands limit place outer done openers held read
stands_at limit outer done openers m held read place sound at = subst (λ p. Stands limit p outer done openers held read) at (record { spell = sound.spell; list = sound.list; levels = sound.levels })

-- what holds before some text holds before more of it
pub list_more : (limit : Limit) (outer : List Level) (place : Place) (done : List Piece) (openers held more : List ℕ) → HoldsList limit outer place done openers held → HoldsList limit outer place done openers (held ++ more)
list_more limit outer place done openers held more h = record {
  fit = λ rest. subst (AreReadIn fielded done) (sym (append_assoc held more rest)) (h.fit (more ++ rest));
  opens = h.opens;
  passes = h.passes;
  in_field = h.in_field;
  no_list = h.no_list;
}

pub levels_more : (limit : Limit) (place : Place) (outer : List Level) (text more : List ℕ) → HoldsLevels limit place outer text → HoldsLevels limit place outer (text ++ more)
levels_more limit literal [] text more h = tt
levels_more limit specification [] text more h = h
levels_more limit place (l ∷ ls) text more h = (single place l.place h.0, h.1, h.2) where
  single : (p q : Place) → IsSingle p q text → IsSingle p q (text ++ more)
  single literal literal one = λ rest. subst (λ t. begins_open t ≡ false) (sym (append_assoc text more rest)) (one (more ++ rest))
  single literal specification one = tt
  single specification q one = tt

pub stands_more : (limit : Limit) (place : Place) (outer : List Level) (done : List Piece) (openers held read more : List ℕ) → Stands limit place outer done openers held read → Stands limit place outer done openers (held ++ more) (read ++ more)
stands_more limit place outer done openers held read more h =
    let text : (spelled done ++ held) ++ more ≡ spelled done ++ (held ++ more) = append_assoc (spelled done) held more in record {
      spell = ap (λ t. before place outer ++ t) (sym text) ∙ sym (append_assoc (before place outer) (spelled done ++ held) more) ∙ ap (λ t. t ++ more) h.spell;
      list = list_more limit outer place done openers held more h.list;
      levels = subst (HoldsLevels limit place outer) text (levels_more limit place outer (spelled done ++ held) more h.levels);
    }

-- pieces other than operators are no brackets and no `:`
pub record IsNeutral (p : Piece) : Type 0 where
  pub no_opener : is_opener p ≡ false
  pub no_closer : is_closer p ≡ false
  pub no_colon : is_colon p ≡ false

pub neutral : (class : Class) (text : List ℕ) → (class ≡ operator → ⊥) → IsNeutral (piece class text)
neutral operator text other = absurd (other refl)
neutral class text other = record { no_opener = refl; no_closer = refl; no_colon = refl }

-- what one more piece needs: it is of its class, before what follows; a mark is the first one; and its brackets go through
pub record Adds (limit : Limit) (outer : List Level) (done : List Piece) (openers after : List ℕ) (class : Class) (text next : List ℕ) : Type 0 where
  pub is : InClassIn (with_fields (limit.FieldsAt (length openers + levels_open outer))) class text
  pub precedes : (more : List ℕ) → MayPrecedeIn fielded class text (next ++ more)
  pub unmarked : (is_mark_class class ≡ false) ⊎ ((outer ≡ []) × (done ≡ []))
  pub opens : Opens after (done ++ piece class text ∷ [])
  pub colon : (l : Level) (ls : List Level) → outer ≡ l ∷ ls → is_colon (piece class text) && (depth_through 0 done == 0) ≡ false
  pub room : is_opener (piece class text) ≡ true → limit.Room (length openers + levels_open outer)

pub colon-push : (depth : ℕ) (ps : List Piece) (p : Piece) → HasNoColon depth ps → is_colon p && (depth_through depth ps == 0) ≡ false → HasNoColon depth (ps ++ p ∷ [])
colon-push depth [] p none other = (other, tt)
colon-push depth (q ∷ ps) p none other = (none.0, colon-push (depth_after depth q) ps p none.1 other)

pub marked-push : (ps : List Piece) (p : Piece) → begins_marked ps ≡ false → is_mark_class p.class ≡ false → begins_marked (ps ++ p ∷ []) ≡ false
marked-push [] p none other = other
marked-push (q ∷ ps) p none other = none

pub passes-push : (limit : Limit) (outer : List Level) (done : List Piece) (openers : List ℕ) (class : Class) (text : List ℕ) → Opens openers done → limit.PiecesAt (levels_open outer) done → InClassIn (with_fields (limit.FieldsAt (length openers + levels_open outer))) class text → (is_opener (piece class text) ≡ true → limit.Room (length openers + levels_open outer)) → limit.PiecesAt (levels_open outer) (done ++ piece class text ∷ [])
passes-push limit outer done openers class text opens passes is room =
    let depth = opens-depth openers done (levels_open outer) opens in
    limit.one_more (levels_open outer) done (piece class text) passes (λ opener. subst limit.Room (sym depth) (room opener))
    (λ at. subst (λ (d : ℕ). InClassIn (with_fields (limit.FieldsAt d)) string text) (sym depth) (subst (λ (x : Class). InClassIn (with_fields (limit.FieldsAt (length openers + levels_open outer))) x text) at is))

-- so the machine stands after it
pub stands_push : (limit : Limit) (outer : List Level) (done : List Piece) (openers after : List ℕ) (class : Class) (text next read : List ℕ) → Stands limit literal outer done openers text read → Adds limit outer done openers after class text next → Stands limit literal outer (done ++ piece class text ∷ []) after next (read ++ next)
stands_push limit outer done openers after class text next read h adds =
    let is_field = class_map _ Fields (limit.are_fields (length openers + levels_open outer)) class text adds.is in
    let spell : spelled (done ++ piece class text ∷ []) ≡ spelled done ++ text = spelled-push done class text in
    let follows : MayFollow done (piece class text ∷ []) =
    ⊎_elim (λ other. follows_any done class text other) (λ first. subst (λ l. MayFollow l (piece class text ∷ [])) (sym first.1) tt) adds.unmarked in record {
      spell = sym (append_assoc (before literal outer) (spelled (done ++ piece class text ∷ [])) next) ∙ ap (λ t. t ++ next) (ap (λ t. before literal outer ++ t) spell ∙ h.spell);
      list = record {
        fit = λ more. AreReadIn-push fielded done class text (next ++ more) (h.list.fit (next ++ more)) is_field (adds.precedes more) follows;
        opens = adds.opens;
        passes = passes-push limit outer done openers class text h.list.opens h.list.passes adds.is adds.room;
        in_field = λ l ls is.
            let own = h.list.in_field l ls is in
            (⊎_elim (λ other. marked-push done (piece class text) own.0 other) (λ first. let none : [] ≡ l ∷ ls = sym first.0 ∙ is in absurd (cc)) adds.unmarked, colon-push 0 done (piece class text) own.1 (adds.colon l ls is));
        no_list = λ at. not_specification at;
      };
      levels = levels_more limit literal outer (spelled (done ++ piece class text ∷ [])) next (subst (HoldsLevels limit literal outer) (sym spell) h.levels);
    }

-- a piece that is no operator
pub adds_neutral : (limit : Limit) (outer : List Level) (done : List Piece) (openers : List ℕ) (class : Class) (text next : List ℕ) → Opens openers done → (class ≡ operator → ⊥) → InClassIn (with_fields (limit.FieldsAt (length openers + levels_open outer))) class text → ((more : List ℕ) → MayPrecedeIn fielded class text (next ++ more)) → (is_mark_class class ≡ false) ⊎ ((outer ≡ []) × (done ≡ [])) → Adds limit outer done openers openers class text next
adds_neutral limit outer done openers class text next opens other is precedes unmarked = let own = neutral class text other in record {
  is = is;
  precedes = precedes;
  unmarked = unmarked;
  opens = opens-other openers done (piece class text) opens own.no_opener own.no_closer;
  colon = λ l ls at. and_left _ _ own.no_colon;
  room = λ opener. absurd (both_ways _ own.no_opener opener);
}

-- the piece is finished, and none is open after it
pub fresh_sound : (limit : Limit) (outer : List Level) (done : List Piece) (openers after : List ℕ) (class : Class) (text read : List ℕ) → Stands limit literal outer done openers text read → Adds limit outer done openers after class text [] → IsFieldSound limit (field_fresh outer (done ++ piece class text ∷ []) after) read
fresh_sound limit outer done openers after class text read h adds =
    let done_now = done ++ piece class text ∷ [] in
    let stands = subst (Stands limit literal outer done_now after []) (append-nil read) (stands_push limit outer done openers after class text [] read h adds) in
    sound_in limit outer done_now after (plain modes.Free) [] read stands (refl, λ at. absurd (cc)) tt
