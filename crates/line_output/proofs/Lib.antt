mod LocalLists
mod Plain
mod TakenLists
