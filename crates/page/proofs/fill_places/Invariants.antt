use Rattle.std.proofs.Common.{◌≡◌, length}
use Rattle.page.specs.Pages.{LastRank, Filled}
use Rattle.page.proofs.fill_places.Given as goal

abbrev pub invariant-loop-m : goal.invariant-loop-m
invariant-loop-m l = record {
  filled : Filled l.ranks l.initial.page.places.now (length l.initial.page.places.now) l.m l.page.used l.page.places.now;
  last : LastRank l.ranks l.page.places.now l.page.used l.least;
  same_places : l.page.places.ghost_name ≡ l.initial.page.places.ghost_name;
  same_ranks : l.page.ranks ≡ l.initial.page.ranks;
}
