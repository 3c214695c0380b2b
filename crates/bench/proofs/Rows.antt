-- The rows, by computing; a list at a time, since one declaration may take only so many steps.
use mathlib.Core.Path.{◌≡◌, refl}
use Rattle.rules.specs.Lines.{decimal_to}
use Rattle.bench.specs.Stores.{slots_from, store_of, store_ok}
use Rattle.bench.specs.Responder.{decision, respond}
use Rattle.bench.specs.Talk.{talk, answers, output}
use Rattle.bench.specs.Rows.{file, page, large, Talks, examples, order, sub_functions, holdings, rooms, lines, Longest, Inputs, Larges, SoundStores, damages, Damages, Afterwards, Rows}

examples-hold : Talks file examples
unfolding examples file answers talk respond decision store_of slots_from decimal_to
examples-hold = refl

order-holds : Talks file order
unfolding order file answers talk respond decision store_of slots_from decimal_to
order-holds = refl

sub-functions-hold : Talks file sub_functions
unfolding sub_functions file answers talk respond decision store_of slots_from decimal_to
sub-functions-hold = refl

holdings-hold : Talks file holdings
unfolding holdings file answers talk respond decision store_of slots_from decimal_to
holdings-hold = refl

rooms-hold : Talks file rooms
unfolding rooms file answers talk respond decision store_of slots_from decimal_to
rooms-hold = refl

lines-hold : Talks file lines
unfolding lines file answers talk respond decision store_of slots_from decimal_to
lines-hold = refl

longest : Longest
unfolding file answers talk respond decision store_of slots_from decimal_to
longest = refl

inputs : Inputs
unfolding file output answers talk respond decision store_of slots_from decimal_to store_ok
inputs = (refl, refl, refl, refl, refl, refl)

larges : Larges
unfolding large answers talk respond decision store_of slots_from decimal_to
larges = (refl, refl, refl)

sound-stores : SoundStores
unfolding file page large store_of slots_from store_ok
sound-stores = (refl, refl, refl, refl, refl, refl, refl)

damages-hold : Damages
unfolding file damages store_of slots_from store_ok
damages-hold = (refl, refl, refl, refl)

afterwards : Afterwards
unfolding file respond decision store_of slots_from
afterwards = (refl, refl, refl, refl, refl, refl, refl, refl, refl, refl, refl, refl, refl, refl, refl)

pub rows-hold : Rows
rows-hold = record {
  examples-hold = examples-hold;
  order-holds = order-holds;
  sub-functions-hold = sub-functions-hold;
  holdings-hold = holdings-hold;
  rooms-hold = rooms-hold;
  lines-hold = lines-hold;
  longest = longest;
  inputs = inputs;
  larges = larges;
  sound-stores = sound-stores;
  damages-hold = damages-hold;
  afterwards = afterwards;
}
