-- A piece that ends before the next byte is passed with the bytes before it.
use Rattle.py_lines.proofs.Prelude.{◌≡◌, ℕ, ◌+◌, ◌<◌, true, false, List, [], ◌∷◌, ◌++◌, length, drop, refl, sym, ap, ◌∙◌, subst, arith, append-nil, encode_utf8_all, both_ways, drop-append_seam, byte_len, Scan, has_field}
use Rattle.py_lines.specs.declared.mode.Mode.TheVariants as opens
use Rattle.py_lines.specs.Private.FieldMachine.{FieldMode, FieldScanned, field_move, text_place}
use Rattle.py_lines.specs.Private.Scan.{ComesOver, Follows, IsFirstByte, Rests, Takes, ends_before, is_ending, is_in_code, is_text, mode_from, passed}
use Rattle.py_lines.proofs.FieldScans.LineEnds.{breaks_mode, code_place}
use Rattle.py_lines.proofs.FieldScans.Runs.{free_start}
use Rattle.py_lines.proofs.FieldScans.Taking.{follows_open, free_at, rests_ended, stands_at}

-- in code no piece is open and no field
pub in_code : (scan : Scan) → is_in_code scan ≡ true → (scan.mode ≡ opens.Free) × (has_field scan.frames ≡ false)
in_code scan code = grind arith

-- where no piece is open, none is passed
pub passes_none : (old : Scan) (bytes : List ℕ) → old.mode ≡ opens.Free → Takes old bytes 0 (passed old 0)
passes_none old bytes free t follow = record { run = []; spell = refl; scalars = refl; size = refl; comes = free_start old t follow free }

-- what is open after these bytes may end, and ends before another
pub record EndsBefore (scan : Scan) (b : ℕ) : Type 0 where
  pub code : is_text scan.mode ≡ false
  pub may : is_ending (mode_from scan.mode) ≡ true
  pub ends : (c : ℕ) → IsFirstByte b c → ends_before scan.mode c ≡ true

module _ (old mid : Scan) (b : ℕ) (rest : List ℕ) (e : EndsBefore mid b) where
  rests_there : (u : FieldScanned) → Follows mid u → Rests (passed mid 0) u (b ∷ rest)
  rests_there u follows =
      let place : text_place u.mode ≡ _ = sym (ap text_place follows.mode) ∙ code_place mid.mode e.code in
      let same : mid.stop ≡ mid.stop + 0 = omega arith in
      subst (λ (n : ℕ). Rests (free_at mid.frames n) u (b ∷ rest)) same
      (rests_ended u mid.frames mid.start mid.stop b rest (stands_at mid u follows place) (ap is_ending (sym follows.mode) ∙ e.may) follows.holds (follows_open mid u follows)
      (λ c first. ap (λ (m : FieldMode). field_move m u.held c) (sym follows.mode) ∙ breaks_mode mid.mode u.held c (e.ends c first) (λ s is. absurd (both_ways _ refl (sym (ap (λ n. is_ending (mode_from n)) is) ∙ e.may)))))

  -- the machine is where the scan keeps count
  rests_exactly : (u : FieldScanned) (left : List ℕ) → left ≡ [] → Rests mid u left → Rests (passed mid 0) u (b ∷ rest)
  rests_exactly u [] none rests = rests_there u (subst (Follows mid) (sym rests.stands) rests.follows)
  rests_exactly u (c ∷ cs) none rests = absurd (cc)

  pub takes_ended : (run : List ℕ) → 0 < length run → Takes old (run ++ []) (length run) mid → Takes old (run ++ b ∷ rest) (length run) (passed mid 0)
  takes_ended run some takes t follow =
      let from = takes t follow in
      let whole : encode_utf8_all from.run ≡ run =
      sym (append-nil (encode_utf8_all from.run)) ∙ ap (λ x. encode_utf8_all from.run ++ x) (sym (drop-append_seam run [])) ∙ from.spell ∙ append-nil run in
      record {
        run = from.run;
        spell = ap (λ x. encode_utf8_all from.run ++ x) (drop-append_seam run (b ∷ rest)) ∙ ap (λ x. x ++ b ∷ rest) whole;
        scalars = from.scalars;
        size = from.size;
        comes = by from.run from.size from.comes;
      }
    where
      by : (cs : List ℕ) → byte_len cs ≡ length run → ComesOver t cs mid (drop (length run) (run ++ []))
          → ComesOver t cs (passed mid 0) (drop (length run) (run ++ b ∷ rest))
      by [] size comes = absurd (omega (arith, some, size))
      by (c ∷ cs) size (u, goes, rests) =
          (u, goes, subst (Rests (passed mid 0) u) (sym (drop-append_seam run (b ∷ rest))) (rests_exactly u (drop (length run) (run ++ [])) (drop-append_seam run []) rests))
