-- The sorted text was written, stays as it is, and has the blocks of the text back.
use Rattle.std.proofs.Common.{◌≡◌, inl, inr, refl, subst, sym}
use Rattle.std.specs.Io.KnownBytes.{Appends}
use Rattle.isort_settings.specs.Values.{values}
use Rattle.isort_sort.specs.Private.Parts.{sorted_bytes}
use Rattle.isort_sort.specs.Private.Reading.{IsFoundIn}
use Rattle.isort_sort.specs.Sorted.{IsSkipped}
use Rattle.isort_sort.proofs.sort.sort_to.Goals as goal

pub returns-in-Skipped-clause-ok : goal.returns-in-Skipped-clause-ok
returns-in-Skipped-clause-ok g c =
    let skipped : IsSkipped c.args.text.now = subst (IsFoundIn c.args.text.now) c.in-Skipped.is c.in_ok-found.ensures.ok in
    record {
      sorted = c.args.text.now;
      is = (skipped, refl);
      stays = inl (skipped, refl);
      read_back = c.sorted_texts_stay.ensures.read_back c.args.text.now (values c.args.settings.now) c.args.text.now (inl (skipped, refl));
      written = c.in_ok-write_whole-in-Skipped.ensures.ok;
    }

pub returns-then-is-clause-ok : goal.returns-then-is-clause-ok
returns-then-is-clause-ok g c =
    let sorted = sorted_bytes c.in_ok-sorted-in-Blocks.sorted in
    let laid = c.in_ok-sorted-in-Blocks.ensures.laid in
    let same : sorted ≡ c.args.text.now = c.if-is.ensures in
    record {
      sorted = sorted;
      is = (laid, same);
      stays = inr (c.sorted_texts_stay.ensures.laid c.args.text.now (values c.args.settings.now) sorted laid);
      read_back = c.sorted_texts_stay.ensures.read_back c.args.text.now (values c.args.settings.now) sorted (inr laid);
      written = subst (Appends _ _) (sym same) c.in_ok-write_whole.ensures.ok;
    }

pub returns-clause-ok : goal.returns-clause-ok
returns-clause-ok g c =
    let sorted = sorted_bytes c.in_ok-sorted-in-Blocks.sorted in
    let laid = c.in_ok-sorted-in-Blocks.ensures.laid in
    record {
      sorted = sorted;
      is = (laid, c.if-is.ensures);
      stays = inr (c.sorted_texts_stay.ensures.laid c.args.text.now (values c.args.settings.now) sorted laid);
      read_back = c.sorted_texts_stay.ensures.read_back c.args.text.now (values c.args.settings.now) sorted (inr laid);
      written = c.in_ok-write_to.ensures.ok;
    }

pub returns-clause-fine : goal.returns-clause-fine
returns-clause-fine g c = λ _. c.in_ok-write_to.ensures.fine
