-- A text with a prefix before a quote, where the dialects differ: rows worked out by hand.
use Rattle.py_lines.proofs.Prelude.{[], ◌∷◌, refl, inl, inr, arith, codes, string, piece}
use Rattle.py_lines.specs.PieceGrammar.{IsShortString}
use Rattle.py_lines.specs.Balance as balance
use Rattle.py_lines.specs.Dialect.{plain_dialect}
use Rattle.py_lines.specs.OpenFields.{at_start}
use Rattle.py_lines.specs.Faults.{IsLiveIn, open_short, IsFaultAtIn, at_end}
use Rattle.py_lines.specs.declared.fault.FaultKind.TheVariants.{OpenString}
use Rattle.py_lines.proofs.FieldMachine.WorkedRows.{tested}

-- f"{x is live without fields: a quote closes the string
live_without : IsLiveIn plain_dialect (codes "f\"{x")
unfolding tested
live_without = let text = codes "f\"{x\"" in
    let short : IsShortString text = record { prefix = codes "f"; quote = 34; items = (123 ∷ []) ∷ (120 ∷ []) ∷ []; spell = refl; begun = inr refl; opens = refl; each = refl } in
    record {
      more = codes "\"";
      pieces = piece string text ∷ [];
      scalars = refl;
      reading = record {
        reads = record { spell = refl; fit = (inl short, λ prefix quote is begun quotes. refl, refl, tt) };
        balanced = balance.one _ (piece string text) refl refl;
        shallow = ((λ opens. absurd (cc)), tt);
      };
    }

-- so its fault is F3 at the string; with fields it is F10 at the `{` (proofs/OpenFields/WorkedRows)
fault_without : IsFaultAtIn plain_dialect OpenString (codes "f\"{x") [] 0
unfolding tested
fault_without = at_end (record {
  unfinished = open_short;
  is = refl;
  whole = refl;
  live = live_without;
  ends_in = (
    [],
    record {
      outside = [];
      depth = 0;
      pieces = [];
      front = codes "f\"{x";
      list = at_start [] _ 0 refl refl;
      begun = record { fit = tt; others = []; balanced = balance.none [] refl; inside = λ deep. absurd (omega arith) };
      before = refl;
      spell = refl;
      open_yet = inl (record { prefix = codes "f"; quote = 34; items = (123 ∷ []) ∷ (120 ∷ []) ∷ []; last = []; spell = refl; begun = inr refl; opens = refl; holds = refl; escapes = inl refl }, refl);
    },
    refl,
  );
})
