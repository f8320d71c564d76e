-- Action comments: what a comment or a string says to isort. isort documentation, "Action Comments".
use Rattle.std.specs.Prelude.{ℕ, nat_eq, ◌==◌, Bool, false, not, ◌&&◌, ◌||◌, List, [], ◌∷◌, ◌++◌, codes, length, drop}
use Rattle.std.specs.Char.{is_ascii_alphanumeric}
use Rattle.std.specs.List.{list_any, starts_with}
use Rattle.std.specs.Str.{byte}
use Rattle.py_imports.specs.declared.action_comment.ActionComment.{ActionComment}
use Rattle.py_imports.specs.declared.action_comment.ActionComment.TheVariants as action

-- how an action is spelled
abbrev pub action_word : ActionComment → List ℕ
action_word action.SkipFile = codes "skip_file"
action_word action.Skip = codes "skip"
action_word action.Off = codes "off"
action_word action.On = codes "on"
action_word action.Split = codes "split"

-- an ASCII letter, digit or `_`
abbrev pub is_word_byte : ℕ → Bool
is_word_byte b = is_ascii_alphanumeric b || (b == byte "_")

-- the text begins with an ASCII letter, digit or `_`
abbrev pub begins_with_word_byte : List ℕ → Bool
begins_with_word_byte [] = false
begins_with_word_byte (b ∷ bs) = is_word_byte b

-- the text begins with the phrase, and no ASCII letter, digit or `_` follows
abbrev pub begins_with_phrase : List ℕ → List ℕ → Bool
begins_with_phrase phrase text = starts_with nat_eq text phrase && not (begins_with_word_byte (drop (length phrase) text))

-- the text begins with `isort:`, at most one space, and the action
abbrev pub begins_with_action : ActionComment → List ℕ → Bool
begins_with_action a text =
    begins_with_phrase (codes "isort:" ++ action_word a) text || begins_with_phrase (codes "isort: " ++ action_word a) text

-- a text and all that is left of it after each of its bytes
abbrev pub tails : List ℕ → List (List ℕ)
tails [] = [] ∷ []
tails (b ∷ bs) = (b ∷ bs) ∷ tails bs

-- the text says the action: somewhere in it `isort:`, at most one space, and the action begin
abbrev pub says : ActionComment → List ℕ → Bool
says a text = list_any (begins_with_action a) (tails text)
