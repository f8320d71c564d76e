use Rattle.py_lines.proofs.FieldScans.CodeItems.{code_mode}
use Rattle.py_lines.proofs.Prelude.{◌≡◌, ℕ, List, refl, subst, Place, literal}
use Rattle.py_lines.specs.declared.mode.Mode.TheVariants as opens
use Rattle.py_lines.specs.declared.string_text.TextMove.{TextMove}
use Rattle.py_lines.specs.declared.string_text.TextMove.TheVariants as text_moves
use Rattle.py_lines.specs.Private.FieldMachine.{FieldMode, closing_move, text_place}
use Rattle.py_lines.specs.Private.Scan.{DoesText, QuotesInText, WouldDo, mode_from}
use Rattle.py_lines.proofs.scan.Scan.step.Goals as goal
use Rattle.py_lines.proofs.scan.Scan.step.Goals.{in-Fields, in-Long, in-Short}

pub text_move-text_move-requires : goal.text_move-text_move-requires
text_move-text_move-requires c = record { some = c.requires.some; quote = rw c.in-Short.is at c.requires.quote }

pub text_move-text_move-requires-in-Long : goal.text_move-text_move-requires-in-Long
text_move-text_move-requires-in-Long c = record { some = c.requires.some; quote = rw c.in-Long.is at c.requires.quote }

pub fields_move-text_move-requires : goal.fields_move-text_move-requires
fields_move-text_move-requires c = record { some = c.requires.some; quote = rw c.in-Fields.is at c.requires.quote }

pub returns-in_default : goal.returns-in_default
returns-in_default c = c.take_in_code.ensures

pub returns : goal.returns
returns c = c.take_text.ensures

pub take_in_code-requires : goal.take_in_code-requires
take_in_code-requires c = record {
  bytes = c.requires.bytes;
  code = code_mode c.args.self.now.mode c.in_default.not-Short c.in_default.not-Long c.in_default.not-Fields;
}

-- in a string without fields all that would be done is done
does : (m : FieldMode) (bytes : List ℕ) (move : TextMove) → text_place m ≡ literal → WouldDo m bytes move → DoesText m bytes move
does m bytes (text_moves.Closes len) place would = subst (λ (p : Place). QuotesInText m bytes len (closing_move p)) place would
does m bytes other place would = would

pub take_text-requires : goal.take_text-requires
take_text-requires c =
    let bytes = c.args.bytes.now in
    elim c.match-self.branch [
      | in-Short w ↦
          let would = rw w.in-Short.is at w.text_move-text_move.ensures.does in
          rw (w.in-Short.is, w.text_move-is) (record {
            bytes = c.requires.bytes;
            text = refl;
            does = does (mode_from (opens.Short w.in-Short.quote)) bytes w.text_move-text_move.result refl (would (refl, refl));
          })
      | in-Long w ↦
          let would = rw w.in-Long.is at w.text_move-text_move-in-Long.ensures.does in
          rw (w.in-Long.is, w.text_move-is) (record {
            bytes = c.requires.bytes;
            text = refl;
            does = does (mode_from (opens.Long w.in-Long.quote)) bytes w.text_move-text_move-in-Long.result refl (would (refl, refl));
          })
      | in-Fields w ↦
          rw (w.in-Fields.is, w.text_move-is) (record {
            bytes = c.requires.bytes;
            text = refl;
            does = w.fields_move-text_move.ensures (rw w.in-Fields.is at c.requires.quote);
          })
    ]
