-- Texts in which `isort:` stands nowhere: they say no action, and so does no part of them.
use Rattle.std.proofs.Common.{◌≡◌, ℕ, Bool, true, false, cond, ◌||◌, ◌&&◌, Option, None, Some, List, [], ◌∷◌, ◌++◌, length, take, drop, map, ◌-◌, refl, sym, ap, ◌∙◌, append_assoc}
use Rattle.std.specs.Prelude.{codes, filter, nat_eq, slice_get, slice_range}
use Rattle.std.specs.List.{list_any, starts_with}
use Rattle.std.proofs.Math.Bool.{and-false}
use Rattle.std.proofs.lemmas.List.{take-append-drop}
use Rattle.std.proofs.lemmas.Slice.Eq.{bytes_eq-Decides}
use Rattle.py_lines.specs.LogicalLine.{LogicalLine}
use Rattle.py_lines.specs.declared.token.Token.{Token}
use Rattle.py_imports.specs.ActionComment.{begins_with_phrase, begins_with_action, action_word, says}
use Rattle.py_imports.specs.Statement.{is_comment, significant}
use Rattle.py_imports.specs.declared.action_comment.ActionComment.{ActionComment}
use Rattle.py_imports.specs.declared.action_comment.ActionComment.TheVariants as action
use Rattle.isort_sort.specs.Line.{word_of}
use Rattle.isort_sort.specs.Private.Actions.{no_actions, AreActions, IsSilent}
use Rattle.isort_sort.specs.Row.{is_comment_kind, is_string, says_alone, string_skips}
use Rattle.isort_sort.proofs.Rows.Comments.{comments_say}

-- a part of a silent text
pub silent_part : (text before part after : List ℕ) → text ≡ before ++ (part ++ after) → IsSilent text → IsSilent part
silent_part text before part after e silent = λ a b f.
    silent (before ++ a) (b ++ after) (
    e
    ∙ ap (λ p. before ++ (p ++ after)) f
    ∙ ap (λ t. before ++ t) (append_assoc a (codes "isort:" ++ b) after)
    ∙ sym (append_assoc before a (codes "isort:" ++ (b ++ after)))
    )

pub silent_slice : (text : List ℕ) (start stop : ℕ) → IsSilent text → IsSilent (slice_range text start stop)
silent_slice text start stop =
    let from = drop start text in
    silent_part text (take start text) (slice_range text start stop) (drop (stop - start) from) (sym (ap (λ t. take start text ++ t) (take-append-drop (stop - start) from) ∙ take-append-drop start text))

-- a silent text begins with no phrase that begins with `isort:`
no_phrase : (word text : List ℕ) → IsSilent text → begins_with_phrase (codes "isort:" ++ word) text ≡ false
no_phrase word text silent = by (starts_with nat_eq text phrase) refl
  where
    phrase : List ℕ
    phrase = codes "isort:" ++ word

    by : (b : Bool) → starts_with nat_eq text phrase ≡ b → begins_with_phrase phrase text ≡ false
    by true begins =
        let same : phrase ≡ take (length phrase) text = (bytes_eq-Decides phrase (take (length phrase) text)).0 begins in
        absurd (silent [] (word ++ drop (length phrase) text) (sym (take-append-drop (length phrase) text) ∙ ap (λ t. t ++ drop (length phrase) text) (sym same)))
    by false begins = rw begins refl

no_action : (a : ActionComment) (text : List ℕ) → IsSilent text → begins_with_action a text ≡ false
no_action a text silent = λ i. no_phrase (action_word a) text silent i || no_phrase (codes " " ++ action_word a) text silent i

-- a silent text says no action
pub silent_says : (a : ActionComment) (text : List ℕ) → IsSilent text → says a text ≡ false
silent_says a [] silent = λ i. no_action a [] silent i || false
silent_says a (b ∷ text) silent = λ i. no_action a (b ∷ text) silent i || silent_says a text (λ before after e. silent (b ∷ before) after (ap (λ t. b ∷ t) e)) i

silent_among : (a : ActionComment) (text : List ℕ) → IsSilent text → (tokens : List Token) → comments_say a text tokens ≡ false
silent_among a text silent [] = refl
silent_among a text silent (t ∷ ts) = by (is_comment t.kind) (silent_among a text silent ts)
  where
    others : List Token
    others = filter (λ t. is_comment t.kind) ts

    by : (b : Bool) → list_any (says a) (map (λ t. slice_range text t.start t.stop) others) ≡ false → list_any (says a) (map (λ t. slice_range text t.start t.stop) (cond b (t ∷ others) others)) ≡ false
    by true later = λ i. silent_says a (slice_range text t.start t.stop) (silent_slice text t.start t.stop silent) i || later i
    by false later = later

silent_alone : (a : ActionComment) (line : LogicalLine) → IsSilent line.text → says_alone a line ≡ false
silent_alone a line silent = (λ i. is_comment_kind line.kind && silent_among a line.text silent line.tokens i) ∙ and-false (is_comment_kind line.kind)

silent_string : (line : LogicalLine) → IsSilent line.text → (found : Option Token) → string_skips line found ≡ false
silent_string line silent None = refl
silent_string line silent (Some t) = (λ i. is_string t.kind && silent_says action.SkipFile (word_of line t) (silent_slice line.text t.start t.stop silent) i) ∙ and-false (is_string t.kind)

-- a silent line says no action
pub silent_actions : (line : LogicalLine) → IsSilent line.text → AreActions line no_actions
silent_actions line silent = record {
  skip_file = sym (silent_among action.SkipFile line.text silent line.tokens);
  string = sym (silent_string line silent (slice_get (significant line.tokens) 0));
  off = sym (silent_alone action.Off line silent);
  on = sym (silent_alone action.On line silent);
  split = sym (silent_alone action.Split line silent);
}
