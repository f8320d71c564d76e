-- What the proofs use of the standard library.
pub use Rattle.std.proofs.Common.{[], ℕ, ⊎_elim, ◌%◌, ◌&&◌, ◌*◌, ◌++◌, ◌+◌, ◌-◌, ◌/◌, ◌<◌, ◌==◌, ◌^◌, ◌||◌, ◌∙◌, ◌∷◌, ◌≡◌, ◌≢◌, ◌≤◌, ◌⊎◌, add-one, add-zero, add_assoc, ap, append-nil, append_assoc, arith, bit_and, bit_or, bit_xor, Bool, cond, drop, drop-cons, encode_utf8, encode_utf8_all, eqb, eqb-true, Err, false, Fits, flat_map, get_or, get_or-drop, if◌then◌else◌, inl, inr, is_some, IsSome, IsUtf8, le_of_eq, le_refl, leb, length, length-append, length-drop, length-take, length-take-le, List, lit<, ltb, map, max, min, nat_lt, None, not, of_z, Ok, Option, refl, replicate, Result, rules, slice_get, slice_index, slice_index_or, Some, subst, suc, sym, take, take-append-drop, take-suc, take_all, to_z, true, w64, w8, zero, zero-add}
pub use Rattle.std.proofs.Math.Bool.{and-false, and-true, and_assoc, or-false, or_assoc}
pub use Rattle.std.proofs.Math.Nat.{le-min, le_of_lt, le_trans, one-le-pow, pow-le-pow_right, pow-suc, lt_of_le_of_lt}
pub use Rattle.std.proofs.Math.Path.{transport}
pub use Rattle.std.proofs.Math.Seq.{drop-append_seam, take-add, take-append-add, take-append_seam}
pub use Rattle.std.proofs.Math.Utf8.{low_scalar, next, scalar, scalar_cases}
unfoldable pub use Rattle.std.proofs.Math.Utf8.{encode}
pub use Rattle.std.proofs.lemmas.Bool.{agree_below, agree_below_at, and_from, and_left, and_parts, and_right, both_ways, cases_Bool, cases_eq, cases_lt, cases_order, cond_both, eq-eqb, eqb-false, false_from_ne_true, le-leb, le-ltb, leb-false, leb-true, lt-ltb, ltb-false, ltb-true, ne_eqb, not-true, not_from_false, or_cases, or_from, or_left, or_parts, or_right}
pub use Rattle.std.proofs.lemmas.Bool.Decides.{Decides-eqb, nat_tests}
pub use Rattle.std.proofs.lemmas.Grind.{get_or_default_zero}
pub use Rattle.std.proofs.lemmas.List.{append_cancel_left, append_cancel_right, at_drop_more, drop-drop, drop-take, drop_all, drop_at, ext_get_or, get_or-append-add, get_or-append_right, get_or-map, get_or-replicate, get_or-take, get_or_append_left, get_or_past, length-map, length-reverse, length-set, length_push, map-append, nil_from_length, reverse-append, same_from_push, take-append-le, take-take, take_at, take_min, take_more, take_more_set, take_rest}
pub use Rattle.std.proofs.lemmas.List.Elements.{All-from_get_or}
pub use Rattle.std.proofs.lemmas.List.Folds.{fold_stays, list_all-append, list_any-append, prefix_len-append, sum_by-replicate}
pub use Rattle.std.proofs.lemmas.List.Sums.{count_by-le-length, fold-append, prefix_len-le-length, prefix_len_passes, prefix_len_stops, sum_by-append, sum_by-cons, sum_by-take-drop}
pub use Rattle.std.proofs.lemmas.Nat.{and_le_l, and_le_r, leading_top}
pub use Rattle.std.proofs.lemmas.Nat.Bits.{bit_at-lt, bit_at-suc, bit_at-trailing_zeros, bit_at-zero, bit_at_above, bit_at_and, bit_at_cat_high, bit_at_lowest, bit_at_mask_below, bit_at_mask_inside, bit_at_not, bit_at_ones, bit_at_set_other, bit_at_set_same, bit_at_xor, ones_shl}
pub use Rattle.std.proofs.lemmas.Option.{IfSome_then, same_Some, slice_get-get_or}
pub use Rattle.std.proofs.lemmas.Result.{err_from_is_err_and, IfOk-from_err, IfOk-weaker}
pub use Rattle.std.proofs.lemmas.Simd.{bit_mask_l, chunk-drop, chunk-fits, Each1-from_get_or, Each1-get_or, get_or-chunk, get_or-swz_l_below, length-chunk, length-swz_l, map-map, mask_l-lt, mask_l-mod, ones-mask_l, splat_is_map, swz_l, SwzOk, SwzOk-from_below, zip2_of_maps, zip2_splat, zip2_splat_left}
pub use Rattle.std.proofs.lemmas.Slice.Eq.{starts_is}
pub use Rattle.std.proofs.lemmas.Str.{byte_from_char, char_from_byte, chars-encodes, chars_from_encodes, cons_from_encodes, encode_ascii, encode_same, encodes-append, encodes_same, is_utf8-from_IsUtf8, IsCharBoundary-at_seam, IsUtf8-append, IsUtf8-encode, IsUtf8-from_ascii, IsUtf8-from_is_utf8, IsUtf8-nil, len_utf8_ascii, len_utf8_bounds, length-encode, length-le-encodes}
pub use Rattle.std.proofs.lemmas.Str.Ascii.{IsAscii-from_all}
pub use Rattle.std.specs.Char.{is_ascii_alphabetic, is_ascii_digit, IsScalar, len_utf8, is_ascii}
pub use Rattle.std.specs.Global.{Vec}
pub use Rattle.std.specs.Int.{bit_at, bit_not, is_in_range, IsInRange, IsOutOfRange, trailing_ones, trailing_zeros}
pub use Rattle.std.specs.Int.Count.{count_leading_zeros, ones, ones-le, ones_step}
unfoldable pub use Rattle.std.specs.Int.Count.{count_trailing_zeros}
pub use Rattle.std.specs.List.{count_by, ends_with, list_all, list_any, prefix_len, starts_with}
pub use Rattle.std.specs.Option.{IfSome}
pub use Rattle.std.specs.Prelude.{codes, MatchOption, nat_eq, nat_le, reverse, slice_range, slice_set}
pub use Rattle.std.specs.Simd.Lanes.{chunk, Each1, mask_l, top, zip2}
pub use Rattle.std.specs.Str.{all_scalars, byte, chars, is_utf8, IsCharBoundary, IsValidUpTo, StartsWithNoChar}
pub use Rattle.std.specs.Str.Lossy.{error_len_after_one, error_len_after_two, error_len_of_some, second_byte_max, second_byte_min}
unfoldable pub use Rattle.std.specs.Str.Lossy.{utf8_error_len}
pub use Rattle.std.specs.Vec.{vec_len}
-- What many of them use of the definitions.
pub use Rattle.py_lines.specs.Balance.{IsBalanced, closing_of, depth_after, depth_through}
unfoldable pub use Rattle.py_lines.specs.Balance.{is_closing, is_opening}
unfoldable pub use Rattle.py_lines.specs.Character.{is_backslash, is_brace, is_break, is_hash, is_line_feed, is_mark, is_operator, is_quote, is_return, is_space, is_word_character}
pub use Rattle.py_lines.specs.LogicalLine.{LogicalLine, byte_len, line_ends, line_of}
pub use Rattle.py_lines.specs.Piece.{Class, Piece, begins, begins_marked, ends, line_end, operator, spelled, string}
pub use Rattle.py_lines.specs.declared.fault.Fault.{Fault}
pub use Rattle.py_lines.specs.declared.fault.FaultKind.{FaultKind}
pub use Rattle.py_lines.specs.declared.frames.Frame.{Frame}
pub use Rattle.py_lines.specs.declared.frames.OpenField.{OpenField}
pub use Rattle.py_lines.specs.declared.line_state.LineState.{LineState}
pub use Rattle.py_lines.specs.declared.marks.Marks.{Marks}
pub use Rattle.py_lines.specs.declared.mode.Region.{Region}
pub use Rattle.py_lines.specs.declared.mode.Spelling.{Spelling}
pub use Rattle.py_lines.specs.declared.mode.StringWithFields.{StringWithFields}
pub use Rattle.py_lines.specs.declared.passing.Passing.{Passing}
pub use Rattle.py_lines.specs.declared.scan.LineFault.{LineFault}
pub use Rattle.py_lines.specs.declared.scan.Progress.{Progress}
pub use Rattle.py_lines.specs.declared.scan.Scan.{Scan}
pub use Rattle.py_lines.specs.declared.token.Token.{Token}
pub use Rattle.py_lines.specs.declared.token.TokKind.{TokKind}
pub use Rattle.py_lines.specs.FieldStrings.{Host, Place, literal, specification}
pub use Rattle.py_lines.specs.Fields.{AreReadBefore, InClass, IsShallow, MayPrecede}
pub use Rattle.py_lines.specs.Private.Run.{BeginsWith}
unfoldable pub use Rattle.py_lines.specs.Private.Run.{is_ascii_word}
pub use Rattle.py_lines.specs.Reading.{Decodes, EndsLine, IsBalancedReading}
pub use Rattle.py_lines.specs.declared.mode.Mode.{Mode as OpenMode}
pub use Rattle.py_lines.specs.Given.{AreFirstLines}
pub use Rattle.py_lines.specs.Private.Frames.{has_field}
pub use Rattle.py_lines.specs.Private.LineState.{first_mode}
pub use Rattle.py_lines.specs.Private.Marks.{is_of_class}
unfoldable pub use Rattle.py_lines.specs.Private.Marks.{is_plain}
pub use Rattle.py_lines.specs.Reader.View.{reader_of}
pub use Rattle.py_lines.specs.Token.{EachLiesIn}

-- the bytes after the first ones, as a slice has them
abbrev pub rest_of : List ℕ → ℕ → List ℕ
rest_of bytes n = take (length bytes - n) (drop n bytes)

pub rest_is : (bytes : List ℕ) (n : ℕ) → rest_of bytes n ≡ drop n bytes
rest_is bytes n = take_all (length bytes - n) (drop n bytes) (omega (arith, length-drop n bytes))

abbrev pub piece : Class → List ℕ → Piece
piece class text = record { class = class; text = text }

pub byte_len-append : (xs ys : List ℕ) → byte_len (xs ++ ys) ≡ byte_len xs + byte_len ys
byte_len-append xs ys = ap length (encodes-append xs ys) ∙ length-append _ _
