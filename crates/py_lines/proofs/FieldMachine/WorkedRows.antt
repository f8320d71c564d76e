-- What rows worked out by hand compute with, on the states of the machine with fields.
use Rattle.unicode_ident.proofs.Computing.{unicode_ident}
use Rattle.py_lines.specs.Character.{is_mark, is_space, is_word_character, is_word_start, is_digit, is_quote, is_operator, is_line_feed, is_return, is_break, is_hash, is_backslash, is_barred, is_brace, is_r, is_b, is_f, is_t, is_u}
use Rattle.py_lines.specs.Balance.{is_opening, is_closing}
use Rattle.py_lines.specs.Private.Machine.{first_spelling, spelling_with, short_move, long_move, move_of, start_of}
use Rattle.py_lines.specs.Private.FieldMachine.{between_move, escape_move, body_move, field_move, openers_with, code_operator, has_room_at}

unfoldable pub tested : Unit {0}
unfolding unicode_ident is_mark is_space is_word_character is_word_start is_digit is_quote is_operator is_line_feed is_return is_break is_hash is_backslash is_barred is_brace is_r is_b is_f is_t is_u is_opening is_closing first_spelling spelling_with short_move long_move move_of start_of between_move escape_move body_move field_move openers_with code_operator has_room_at
tested = tt
