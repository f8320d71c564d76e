-- What has room at some depth of brackets and fields has it at any smaller one.
use Rattle.py_lines.proofs.Prelude.{ℕ, zero, suc, ◌+◌, ◌≤◌, List, [], ◌∷◌, arith, Piece, depth_after, Host}
use Rattle.py_lines.specs.Fields.{Fields, IsShallowWith, ShallowFields, ShallowWithin}
use Rattle.py_lines.proofs.Fields.Nesting.{Within, field_map, string_map}

pieces_less : (S : ℕ → Host → List ℕ → Type 0) → ((d e : ℕ) → d ≤ e → Within (S e) (S d)) → (d e : ℕ) (ps : List Piece) → d ≤ e
    → IsShallowWith S e ps → IsShallowWith S d ps
pieces_less S less d e [] small passes = tt
pieces_less S less d e (p ∷ ps) small passes = (
  λ opens. let room = passes.0 opens in omega (arith, small, room),
  λ at. string_map (S e) (S d) (less d e small) p.text (passes.1 at),
  pieces_less S less (depth_after d p) (depth_after e p) ps (grind arith) passes.2,
)

within_less : (n d e : ℕ) → d ≤ e → Within (ShallowWithin n e) (ShallowWithin n d)
within_less zero d e small host text is = absurd is
within_less (suc n) d e small host text is =
    let more : d + 1 ≤ e + 1 = omega (arith, small) in (
      omega (arith, small, is.0),
      field_map Fields Fields (ShallowWithin n (e + 1)) (ShallowWithin n (d + 1)) _ _ (λ h t k. k) (within_less n (d + 1) (e + 1) more)
          (λ ps passes. pieces_less (ShallowWithin n) (within_less n) (d + 1) (e + 1) ps more passes) host text is.1,
    )

pub fields_less : (d e : ℕ) → d ≤ e → Within (ShallowFields e) (ShallowFields d)
fields_less d e small host text is = (is.0, within_less is.0 d e small host text is.1)
