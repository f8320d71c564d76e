-- `into_box` hands what the parts own to `from_raw`, and gives the box that comes of it.
use Rattle.std.proofs.Common.{◌≡◌, List, [], ◌∷◌, ◌++◌, refl, sym, ap, subst}
use mir.Syntax.{a_type, dcons, dnil}
use mir.MapTy.{inst_fn}
use mir.Val.{Val, vptr}
use base.Logic.{SProp, ent, emp, id⊢}
use base.Fml.{ftrue, fsep, flft}
use prog.Wp.{WpFn}
use types.Kit.{Item, ‵, raw, ◌⊛◌, some, later, at_ret, ◌$◌, ◌∵◌, !, qed, by, move, keep, drop, split, split3, join, fsplit, fjoin, feq_i, pick, suffices, rewrite, use0, use1, await}
use types.Run.{stop, fld, of_opd, no_more, and_then, first, blocks, exec, returns, enter}
use types.ByLocal.{alloc_all, pass_all, free_all, look_at, get, get_in, sets, lands_last, env}
use types.Part.{sub, whole}
use contract.Monad.{fact, fact_i}
use contract.BorrowLft.{◌⊑◌}
use contract.Running.{tables}
use denote.Exit.{no}
use denote.RattleType.{RattleType}
use denote.Signature.{Slot, plain}
use denote.RawPtr.{block_ptr}
use denote.Param.{bounded}
use denote.Steps.{nothing, only, heard}
use denote.Triple.Call.{calls_at_last}
use denote.Triple.Spec.{triple_of}
use denote.Triple.Walked.{Stays, stay_dropped, walk_of}
use Rattle.std.proofs.raw_atomic.Walks.{proved_at, leaves}
use denote.Triple.Table.{framed}
use Rattle.std.proofs.alloc.Calls.{Goes-blank}
use Rattle.std.proofs.BoxSteps.Form.{Bx, D, R, P, B, word, box_ty, box_typed}
use Rattle.std.proofs.BoxSteps.Steps.{box_out, box_in}
use lib.Dec.{T as T'}
use mir.Val.{has_ty, WT}
use mir.Syntax.{Body, place, copy, assign, rv_opd, seq, return}
use Rattle.isort_c.specs.contracts.parts.Parts as parts
use Rattle.std.specs.contracts.boxed.Box.from_raw as from_raw
use Rattle.std.proofs.boxed.Box.from_raw.Met as from_raw_met
use Rattle.isort_c.specs.contracts.parts.Parts.into_box.{ended, clauses}
use Rattle.isort_c.specs.contracts.parts.Parts.into_box.Key.{name as #self}
use Rattle.isort_c.proofs.parts.Parts.into_box.Statement.{statement}
use Rattle.isort_c.proofs.parts.Parts.into_box.Code as code

-- what stands after the call
abbrev rest : Body
rest = seq (assign (place 0 []) (rv_opd (copy (place 4 [])))) return

pub into_box_spec : {M : Type 1} → statement M
into_box_spec 𝓤 𝓛 𝓜 𝓡 wired T A LT LA g d dT dA allocator dropT dropA =
    let 𝓣 = tables 𝓤 𝓛.H 𝓜 𝓡 𝓡.env in let c = clauses T A g d dT dA 𝓛 𝓜.mem 𝓡.returns in let En = ended T A g d dT dA in
    let E : Bx = record { row = T; laws = LT; al = record { row = A; laws = LA; g = g; d = d; drops = dA } } in
    let args = bounded (a_type ∷ a_type ∷ []) (T, (A, tt)) (dcons d (dcons dT (dcons dA dnil))) in let fn = inst_fn args code.function in
    let From : RattleType = parts.the_row (R E) (P E) g in
    let slot : Slot 2 = plain (λ _. From) in let hs : Stays En.signature.params En.kept = (stay_dropped slot no, tt) in
    let called = triple_of 𝓛 (from_raw.signature T A g d dA) (from_raw.spec T A g d dA 𝓛 𝓜.mem 𝓡.returns) in
    let called_met = from_raw_met.met 𝓤 𝓛 𝓜 𝓡 (code.calls-std::boxed::Box::from_raw 𝓡.env wired) T A LT LA g d dA allocator dropA in
    proved_at 𝓛 En hs c 𝓜 𝓡 (Goes-blank 𝓛 2 slot no (λ κs x f. tt), tt) (#self args) fn (code.unfolded 𝓤 𝓛.H 𝓜 𝓡 wired (T, (A, tt)) d dT dA) (λ z are.
    let κs = z.0.0 in let qs = z.0.1 in let a = z.0.3.0.alloc in let x = z.0.3.0.value in let v : D E = record { ptr = z.0.3.0.at; alloc = a; value = x } in
    let Post : Val → SProp 𝓤 = (walk_of 𝓛 En hs c).post z in let Run : List Val → SProp 𝓤 = λ ws. WpFn 𝓤 𝓛.H 𝓣.C 𝓣.Λ fn ws Post in
    let tokens : Item 𝓤 = ‵ (flft κs.0 qs.0) ⊛ ‵ (flft κs.1.0 qs.1.0) ⊛ ‵ ftrue in
    qed 𝓛 ((tokens ⊛ ‵ (fsep ((B E).own_val v z.0.4.0) ftrue)) ∷ (raw (fact 𝓤 (κs.0 ⊑ T.lives)) ⊛ raw (fact 𝓤 (κs.1.0 ⊑ A.lives)) ⊛ ‵ ftrue) ∷ []) ∵
    split ! $ move ! (1 ∷ []) $ fsplit ! $ box_out E ! v z.0.4.0 (λ b o h at is fits. fjoin ! $
    let w : Val = word E h b o in let y : called.Ghost = ((κs, qs, tt, (a, (block_ptr b o, tt)), (h ∷ [], (vptr b o ∷ [], tt))), x) in
    -- [what the box owns; the handle; true; the tokens; that the types outlive them], into what the call requires
    move ! (4 ∷ []) $ split3 ! $ move ! (2 ∷ []) $ drop ! $ move ! (1 ∷ 2 ∷ []) $ join ! $ move ! (1 ∷ 0 ∷ []) $ join ! $
    move ! (2 ∷ []) $ feq_i ! (List Val) (vptr b o ∷ []) (vptr b o ∷ []) refl $ fjoin ! $ move ! (2 ∷ 0 ∷ []) $ fjoin ! $
    move ! (2 ∷ 0 ∷ []) $ join ! $ join ! $ use1 𝓛 (raw (called.pre y)) (id⊢ 𝓤 _) $
    suffices ! (Run (w ∷ [])) (subst (λ (us : List Val). ent 𝓤 (Run (w ∷ [])) (Run us)) (sym (λ i. is i ++ [])) (id⊢ 𝓤 (Run (w ∷ [])))) $
    enter ! 𝓣.C 𝓣.Λ fn (w ∷ []) Post $ alloc_all ! (λ l. pass_all ! refl (box_typed E h b o fits, tt) $ let Ev = env fn.locals l in
    sets ! (of_opd ! (get_in ! (fld ! refl (stop !)) (sub ! 0 refl (whole !)))) refl (tt, tt) $
    sets ! (of_opd ! (get_in ! (fld ! refl (stop !)) (sub ! 1 refl (whole !)))) refl fits $ first ! $ blocks ! $ sets ! (of_opd ! (get ! refl)) refl fits $
    calls_at_last ! (λ f. framed 𝓤 𝓛.H 𝓜 𝓣 f) called called_met y (and_then ! (get ! refl) (and_then ! (get ! refl) (no_more !))) (λ u.
    use1 𝓛 (later (some (λ (r : D E). (tokens ⊛ ‵ ((B E).own_val r (u ∷ []))) ⊛ some (λ (_ : Unit {0} × (Unit {0} × Unit {0})). ‵ (fsep ftrue (fsep ftrue ftrue)) ⊛ (raw (fact 𝓤 (r.value ≡ x)) ⊛ raw (fact 𝓤 (r.alloc ≡ a))))))) (id⊢ 𝓤 _) $
    await ! tt $ pick ! (λ r. split ! $ move ! (1 ∷ []) $ pick ! (λ _. split3 ! $ drop ! $ heard ! (r.value ≡ x) (λ same. drop ! $ split ! $ move ! (1 ∷ []) $
    box_out E ! r (u ∷ []) (λ b' o' h' at' is' fits'. box_in E ! r b' o' r.value at' refl $ rewrite ! 0 (λ (us : List Val). ‵ ((B E).own_val r us)) (sym is') refl $
    let good : T' (has_ty (box_ty E) u) × WT u = subst (λ (s : Val). T' (has_ty (box_ty E) s) × WT s) (sym (ap only is')) (box_typed E h' b' o' fits') in
    lands_last ! refl good $ exec ! 𝓣.C 𝓣.Λ Ev rest (at_ret Ev Post) $ sets ! (of_opd ! (get ! refl)) refl good $
    use0 𝓛 (raw (fact 𝓤 (r.value ≡ x))) (fact_i 𝓤 (r.value ≡ x) (emp 𝓤) same) $ nothing ! $ nothing ! $ fjoin ! $
    returns ! (look_at ! 0 refl) $ free_all ! refl $ keep ! (3 ∷ 0 ∷ 2 ∷ 1 ∷ []) $ by ! (leaves 𝓛 En hs c z u r ((tt, (tt, tt)), tt) (tt, tt))))))))))
