-- What a case about a given table's bytes computes with.
use Rattle.encoding.specs.Layout.{word, maximum, values_from, maxima, count_place, count, header, record_size, start, record_byte, record_word}
use Rattle.encoding.specs.Writing.{with_word}

-- To unfold this is to unfold where a table's numbers stand, and a table with another number written into it.
unfoldable pub encoding_computes : Unit {0}
unfolding word maximum values_from maxima count_place count header record_size start record_byte record_word with_word
encoding_computes = tt
