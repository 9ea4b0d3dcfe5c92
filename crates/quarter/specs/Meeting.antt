-- The programs' paper, docs/DESK.md: what the bytes that are held begin with. Cited by `read_line`. Assumes nothing.
use Rattle.std.specs.Prelude.{cond, List, ℕ, ◌-◌, take, drop}
use Rattle.intake.specs.declared.Cut.{Cut}
use Rattle.intake.specs.declared.Found.{Found}
use Rattle.intake.specs.declared.Found.TheVariants.{Line, Long, More, Nothing}
use Rattle.intake.specs.declared.Lead.{Lead}
use Rattle.intake.specs.declared.Lead.TheVariants.{Spaces}
use Rattle.intake.specs.Cuts.{cut_of}
use Rattle.intake.specs.Leads.{lead_of, is_open}
use Rattle.console.specs.declared.Feed.{Feed}
use Rattle.quarter.specs.declared.Asked.{Asked}
use Rattle.quarter.specs.declared.Asked.TheVariants.{Unknown, Astray}
use Rattle.quarter.specs.declared.Next.{Next}
use Rattle.quarter.specs.declared.Next.TheVariants.{Line as LineOf, More as NoEnd, End}
use Rattle.quarter.specs.declared.Reading.{Reading}
use Rattle.quarter.specs.Asking.{asked_of}

-- "A line of over 4,000 bytes whose first word is `open` is such an `open`", and so is one whose first word is `card`
abbrev pub long_asked : Lead → Asked
long_asked lead = cond (is_open lead) Astray Unknown

-- reading stands behind what was found
abbrev pub met_at : Feed → Cut → Lead → Next → Reading
met_at feed cut lead next =
    record {
      feed = record { held = feed.held; intake = cut.next; begun = feed.begun; failed = feed.failed };
      lead = lead;
      start = cut.start;
      end = cut.end;
      unended = cut.unended;
      next = next;
    }

-- by what was found; of a line that is too long what is known of its first word
abbrev pub by_found : Found → (bytes : List ℕ) → Feed → Cut → Lead → Reading
by_found Line bytes feed cut lead = met_at feed cut Spaces (LineOf (asked_of bytes))
by_found Long bytes feed cut lead = met_at feed cut Spaces (LineOf (long_asked (lead_of lead bytes)))
by_found More bytes feed cut lead = met_at feed cut (cond cut.next.skipping (lead_of lead bytes) lead) NoEnd
by_found Nothing bytes feed cut lead = met_at feed cut lead End

-- the bytes from one place up to another
abbrev pub part : List ℕ → (start end : ℕ) → List ℕ
part text start end = take (end - start) (drop start text)

unfoldable pub reading_of : List ℕ → Feed → Lead → Reading
reading_of text feed lead =
    let cut = cut_of (take feed.held text) feed.intake in by_found cut.found (part text cut.start cut.end) feed cut lead
