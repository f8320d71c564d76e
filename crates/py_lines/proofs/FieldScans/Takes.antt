-- What the scan takes in one step or several: the machine goes through it, and the scan follows.
use Rattle.py_lines.proofs.Prelude.{◌≡◌, ℕ, ◌+◌, ◌<◌, true, List, [], ◌∷◌, ◌++◌, drop, refl, sym, ap, ◌∙◌, subst, append_assoc, arith, encode_utf8_all, all_scalars, drop-drop, encodes-append, byte_len, Scan, byte_len-append}
use Rattle.py_lines.specs.declared.scan.Progress.TheVariants as progress
use Rattle.py_lines.specs.Private.FieldMachine.{FieldScanned}
use Rattle.py_lines.specs.Private.Scan.{ComesOver, Follows, Goes, GoesOver, Rests, StandsAs, Steps, Takes, TakesFrom}
use Rattle.py_lines.proofs.FieldScans.Taking.{goes_real, rests_exact}
use Rattle.py_lines.proofs.Text.Utf8Prefixes.{all_scalars-append}

-- over two runs, one after the other
pub goes-append : (t u v : FieldScanned) (a b : List ℕ) → Goes t a u → Goes u b v → Goes t (a ++ b) v
goes-append t u v [] b first second = subst (λ x. Goes x b v) (sym first) second
goes-append t u v (c ∷ a) b (open_yet, next, step, going, others) second = (open_yet, next, step, going, goes-append next u v a b others second)

-- nothing is taken
pub takes_none : (scan : Scan) (bytes : List ℕ) → Takes scan bytes 0 scan
takes_none scan bytes = λ t follows. record { run = []; spell = refl; scalars = refl; size = refl; comes = follows }

-- what the scan follows over
pub comes_exact : (t u : FieldScanned) (run : List ℕ) (new : Scan) (rest : List ℕ) → Goes t run u → Follows new u → ComesOver t run new rest
comes_exact t u [] new rest goes follows = subst (Follows new) (sym goes) follows
comes_exact t u (c ∷ cs) new rest goes follows = (u, goes, rests_exact new u rest follows)

-- what a step takes
over_some : (t u : FieldScanned) (run : List ℕ) (new : Scan) (rest : List ℕ) → 0 < byte_len run → Goes t run u → Rests new u rest → ComesOver t run new rest
over_some t u [] new rest some goes rests = absurd (omega (arith, some))
over_some t u (c ∷ cs) new rest some goes rests = (u, goes, rests)

pub takes_step : (old new : Scan) (bytes : List ℕ) (len : ℕ) → Steps old bytes (progress.Going len) new → Takes old bytes len new
takes_step old new bytes len steps = λ t follows. let o : GoesOver t bytes len new = steps t follows in
    record { run = o.run; spell = o.spell; scalars = o.scalars; size = o.size; comes = over_some t o.to o.run new (drop len bytes) (omega (arith, o.size, o.some)) o.goes o.rests }

-- and what is taken after it
module _ (new : Scan) (rest bytes : List ℕ) (t u : FieldScanned) where
  -- the machine stands there as the scan does
  comes_as : (run : List ℕ) → StandsAs bytes u t → all_scalars run ≡ true → encode_utf8_all run ++ rest ≡ bytes → ComesOver t run new rest
      → (v : FieldScanned) × Goes u run v × Rests new v rest
  comes_as [] stands scalars spell follows = (u, refl, record { as_if = t; follows = follows; stands = subst (λ bs. StandsAs bs u t) (sym spell) stands })
  comes_as (c ∷ cs) stands scalars spell (v, goes, rests) = (v, goes_real u t v bytes (c ∷ cs) rest stands scalars spell (omega arith) goes, rests)

pub takes_on : (old mid new : Scan) (bytes : List ℕ) (a b : ℕ) → Takes old bytes a mid → Takes mid (drop a bytes) b new → Takes old bytes (a + b) new
takes_on old mid new bytes a b first second t follows = by (first t follows) where
  far : drop b (drop a bytes) ≡ drop (a + b) bytes
  far = drop-drop b a bytes

  both : (run : List ℕ) → encode_utf8_all run ++ drop a bytes ≡ bytes → all_scalars run ≡ true → byte_len run ≡ a → (more : List ℕ)
      → encode_utf8_all more ++ drop b (drop a bytes) ≡ drop a bytes
      → all_scalars more ≡ true → byte_len more ≡ b → ComesOver t (run ++ more) new (drop b (drop a bytes)) → TakesFrom t bytes (a + b) new
  both run spell scalars size more next_spell next_scalars next_size comes = let size_is : byte_len (run ++ more) ≡ a + b = omega (arith, byte_len-append run more, size, next_size) in
      let spelled = ap (λ x. encode_utf8_all (run ++ more) ++ x) (sym far) ∙ ap (λ x. x ++ drop b (drop a bytes)) (encodes-append run more)
      ∙ append_assoc (encode_utf8_all run) (encode_utf8_all more) (drop b (drop a bytes)) ∙ ap (λ x. encode_utf8_all run ++ x) next_spell ∙ spell in
      search (spelled, all_scalars-append run more scalars next_scalars, size_is, subst (ComesOver t (run ++ more) new) far comes)

  by : TakesFrom t bytes a mid → TakesFrom t bytes (a + b) new
  by one = go one.run one.spell one.scalars one.size one.comes where
    go : (run : List ℕ) → encode_utf8_all run ++ drop a bytes ≡ bytes → all_scalars run ≡ true → byte_len run ≡ a
        → ComesOver t run mid (drop a bytes) → TakesFrom t bytes (a + b) new
    go [] spell scalars size follows_mid = let two = second t follows_mid in both [] spell scalars size two.run two.spell two.scalars two.size two.comes
    go (c ∷ cs) spell scalars size (u, goes, rests) = let two = second rests.as_if rests.follows in
        let (v, on, rested) = comes_as new (drop b (drop a bytes)) (drop a bytes) rests.as_if u two.run rests.stands two.scalars two.spell two.comes in
        both (c ∷ cs) spell scalars size two.run two.spell two.scalars two.size (v, goes-append t u v (c ∷ cs) two.run goes on, rested)
