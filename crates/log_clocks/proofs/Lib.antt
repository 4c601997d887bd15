pub mod SlotLists
pub mod Joining
pub mod RecordClocks
pub mod Keeping
pub mod Knowing
pub mod RowLists
pub mod Accesses
pub mod Grown
