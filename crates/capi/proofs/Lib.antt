mod OnTrees
mod Told
