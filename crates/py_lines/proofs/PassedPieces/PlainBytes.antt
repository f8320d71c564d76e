-- Plain bytes of a line, as the scan would take them byte by byte, and what is open after them.
use Rattle.py_lines.proofs.Prelude.{◌≡◌, ℕ, zero, suc, ◌+◌, ◌<◌, Bool, true, false, Option, None, Some, List, [], ◌∷◌, ◌++◌, length, slice_index, refl, sym, ap, ◌∙◌, subst, arith, length-append, list_all, and_parts, or_parts, encode_ascii, take-append_seam, low_scalar, is_space, Spelling, Scan, OpenMode, has_field, is_plain}
use Rattle.py_lines.specs.declared.mode.Mode.TheVariants as opens
use Rattle.py_lines.specs.Private.Passing.{tail_of, tail_on}
use Rattle.py_lines.specs.Private.Run.{BeginsWith, HasRun, is_ascii_word}
use Rattle.py_lines.specs.Private.Scan.{Takes, ends_before}
use Rattle.py_lines.proofs.FieldScans.PlainCode.{code_takes, is_code_open, over_code, over_frames, over_open, over_stop, over_word, word_open}
use Rattle.py_lines.proofs.LineScan.AsciiRuns.{word_byte_continues}
use Rattle.py_lines.proofs.Text.FirstCharacters.{begins_with}

-- what is open where bytes end so: the word of ASCII that they end with, or space or no piece
abbrev pub IsTail : Option Spelling → OpenMode → Type 0
IsTail (Some s) m = m ≡ opens.Word s
IsTail None opens.Free = Unit {0}
IsTail None opens.Space = Unit {0}
IsTail None other = ⊥

tail_is : (m : OpenMode) → is_code_open m ≡ true → IsTail (word_open m) m
tail_is m code = grind arith

-- the scan goes over these bytes so, whatever follows them
pub record PlainTo (old : Scan) (run : List ℕ) : Type 0 where
  pub frames : (over_code old run).frames ≡ old.frames
  pub stop : (over_code old run).stop ≡ old.stop + length run
  pub tail : IsTail (tail_of run) (over_code old run).mode
  pub takes : (rest : List ℕ) → Takes old (run ++ rest) (length run) (over_code old run)

all_bytes : (passes : ℕ → Bool) (run rest : List ℕ) → list_all passes run ≡ true → (i : ℕ) → i < length run → passes (slice_index (run ++ rest) i) ≡ true
all_bytes passes [] rest all i less = absurd (omega (arith, less))
all_bytes passes (c ∷ cs) rest all zero less = (and_parts (passes c) (list_all passes cs) all).0
all_bytes passes (c ∷ cs) rest all (suc i) less = all_bytes passes cs rest (and_parts (passes c) (list_all passes cs) all).1 i (omega (arith, less))

-- where no piece is open
pub plain_run : (old : Scan) (run : List ℕ) → old.mode ≡ opens.Free → has_field old.frames ≡ false → list_all is_plain run ≡ true → PlainTo old run
plain_run old run free outside all =
    let code : is_code_open old.mode ≡ true = ap is_code_open free in
    let word : word_open (over_code old run).mode ≡ tail_of run = over_word old run ∙ ap (λ m. tail_on (word_open m) run) free in
    record {
      frames = over_frames old run;
      stop = over_stop old run;
      tail = subst (λ o. IsTail o (over_code old run).mode) word (tail_is (over_code old run).mode (over_open old run code));
      takes = λ rest.
          let has : HasRun is_plain (run ++ rest) (length run) = record { within = omega (arith, length-append run rest); each = all_bytes is_plain run rest all } in
          subst (λ cs. Takes old (run ++ rest) (length run) (over_code old cs)) (take-append_seam run rest) (code_takes old (run ++ rest) (length run) outside code has);
    }

-- a byte that isn't plain is of no word and no space, so what is open ends before it
pub others : (c : ℕ) → is_plain c ≡ false → (is_ascii_word c ≡ false) × (is_space c ≡ false)
unfolding is_plain
others c special = let word = or_parts (is_ascii_word c) _ special in (word.0, (or_parts (is_space c) _ word.1).0)

pub tail_ends : (tail : Option Spelling) (m : OpenMode) (c : ℕ) → IsTail tail m → c < 128 → is_plain c ≡ false → ends_before m c ≡ true
tail_ends (Some s) m c is low special = ap (λ n. ends_before n c) is ∙ rw (word_byte_continues c low, (others c special).0) refl
tail_ends None opens.Free c is low special = refl
tail_ends None opens.Space c is low special = rw ((others c special).1) refl
tail_ends None m c is low special = absurd is

-- a byte of ASCII begins the bytes
pub low_first : (c : ℕ) (rest : List ℕ) → c < 128 → BeginsWith (c ∷ rest) c
low_first c rest low = begins_with (c ∷ rest) rest c (low_scalar c (omega (arith, low))) (ap (λ t. t ++ rest) (sym (encode_ascii c low)))
