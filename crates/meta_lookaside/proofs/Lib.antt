mod SlotLemmas
