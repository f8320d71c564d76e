-- The frames that are open are the first of an array.
use Rattle.py_lines.proofs.Prelude.{◌≡◌, ℕ, ◌+◌, ◌-◌, ◌<◌, ◌≤◌, List, [], ◌∷◌, length, take, refl, sym, ap, ◌∙◌, arith, reverse, get_or, nat_lt, slice_set, lt-ltb, length-set, length-take-le, length-reverse, reverse-append, take_more, take_more_set, Frame}
use Rattle.py_lines.specs.declared.frames.Frame.TheVariants as frame
use Rattle.py_lines.specs.Private.Frames.{fields_of, has_field}

-- so many of them, the innermost first
abbrev pub first_frames : List Frame → ℕ → List Frame
first_frames fs n = reverse (take n fs)

pub first_frames_length : (fs : List Frame) (n : ℕ) → length fs ≡ 200 → n ≤ 200 → length (first_frames fs n) ≡ n
first_frames_length fs n size few = length-reverse (take n fs) ∙ length-take-le n fs (omega (arith, size, few))

-- the last of them is the innermost
pub first_frames_last : (fs : List Frame) (n : ℕ) → length fs ≡ 200 → n ≤ 200 → (n ≡ 0 → ⊥)
    → first_frames fs n ≡ get_or fs (n - 1) (frame.Bracket 0 0) ∷ first_frames fs (n - 1)
first_frames_last fs n size few some =
    let same : n ≡ n - 1 + 1 = omega (arith, some) in
    ap (first_frames fs) same ∙ ap reverse (take_more fs (n - 1) (frame.Bracket 0 0) (omega (arith, size, few, same)))
    ∙ reverse-append (take (n - 1) fs) (get_or fs (n - 1) (frame.Bracket 0 0) ∷ [])

-- so many of them are fields
pub fields_few : (fs : List Frame) → fields_of fs ≤ length fs
fields_few [] = omega arith
fields_few (frame.Bracket opener place ∷ fs) = omega (arith, fields_few fs)
fields_few (frame.Field field ∷ fs) = omega (arith, fields_few fs)

pub fields_some : (fs : List Frame) → nat_lt 0 (fields_of fs) ≡ has_field fs
fields_some [] = refl
fields_some (frame.Bracket opener place ∷ fs) = fields_some fs
fields_some (frame.Field field ∷ fs) = lt-ltb 0 (fields_of fs + 1) (omega arith)

-- one more is opened
pub record Opened (fs : List Frame) (n : ℕ) (f : Frame) (old : List Frame) (fields : ℕ) : Type 0 where
  pub room : n < 200
  pub short : length old < 200
  pub size : length (slice_set fs n f) ≡ 200
  pub counted : fields ≡ fields_of old
  pub few : fields ≤ length old
  pub is : first_frames (slice_set fs n f) (n + 1) ≡ f ∷ old

pub opened : (fs : List Frame) (n : ℕ) (f : Frame) (old : List Frame) (fields : ℕ)
    → (length fs ≡ 200) × (n ≤ 200) × (fields ≡ fields_of (first_frames fs n)) → first_frames fs n ≡ old → (length old ≡ 200 → ⊥) → Opened fs n f old fields
opened fs n f old fields (size, few, counted) is room = grind (arith, first_frames_length, fields_few, take_more_set, reverse-append, length-set)

-- the innermost is taken away
pub record Taken (fs : List Frame) (n : ℕ) (f : Frame) (old : List Frame) (fields : ℕ) : Type 0 where
  pub some : 1 ≤ n
  pub last : get_or fs (n - 1) (frame.Bracket 0 0) ≡ f
  pub room : n - 1 ≤ 200
  pub is : old ≡ f ∷ first_frames fs (n - 1)
  pub counted : fields ≡ fields_of (f ∷ first_frames fs (n - 1))

pub taken : (fs : List Frame) (n : ℕ) (f : Frame) (old : List Frame) (fields : ℕ)
    → (length fs ≡ 200) × (n ≤ 200) × (fields ≡ fields_of (first_frames fs n)) → first_frames fs n ≡ old
    → (others : List Frame) × (old ≡ f ∷ others) → Taken fs n f old fields
taken fs n f old fields (size, few, counted) is (others, has) =
    let len = ap length (sym has) ∙ ap length (sym is) ∙ first_frames_length fs n size few in
    let last = first_frames_last fs n size few (λ none. absurd (omega (arith, len, none))) in let same : get_or fs (n - 1) (frame.Bracket 0 0) ≡ f = cc in
    let all = sym is ∙ last ∙ ap (λ g. g ∷ first_frames fs (n - 1)) same in
    let some : 1 ≤ n = omega (arith, len) in let room : n - 1 ≤ 200 = omega (arith, few) in search (some, same, room, all, counted ∙ ap fields_of (is ∙ all))
