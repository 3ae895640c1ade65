-- Each refusal of a file: its number, the layer at which it stands, and what is told of it.
use Rattle.std.specs.Prelude.{ℕ}
use Rattle.mapfile.specs.declared.fault.Layer.{Layer}
use Rattle.mapfile.specs.declared.fault.Layer.TheVariants as layers
use Rattle.mapfile.specs.declared.fault.Breach.{Breach}
use Rattle.mapfile.specs.declared.fault.Breach.TheVariants.{Short, Edition, Contents, Count, Length, Field}
use Rattle.mapfile.specs.declared.fault.Fault.{Fault}

abbrev pub number : Breach → ℕ
number Short = 1
number Edition = 2
number Contents = 3
number Count = 4
number Length = 5
number Field = 6

abbrev pub layer_of : Breach → Layer
layer_of Short = layers.Contents
layer_of Edition = layers.Contents
layer_of Contents = layers.Contents
layer_of Count = layers.Contents
layer_of Length = layers.Body
layer_of Field = layers.Record

abbrev pub fault : Breach → ℕ → Fault
fault b at = record { layer = layer_of b; breach = b; byte = at }
